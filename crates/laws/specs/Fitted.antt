-- What a cut answers and writes, given its outcome, once the work area is long enough; and the promise from it.
use Rattle.std.specs.Prelude.{ℕ, ◌≤◌, ◌<◌, ◌≡◌, refl, List, ◌++◌, length, drop, Ok, Err}
use Rattle.std.proofs.Common.{lt-ltb, le-ltb}
use Rattle.rules.specs.declared.Refusal.{Refusal}
use Rattle.rules.specs.declared.Refusal.TheVariants.{WorkArea, ShortOutput}
use Rattle.rules.specs.Numbers.{Outcome, refused, written, Answer}
use Rattle.rules.specs.Promise.{work_length, zeros, fitted, answer_of, output_of, work_of, Promise}

pub record Fitted (o : Outcome) (out : List ℕ) (answer : Answer) (out' : List ℕ) : Type 0 where
  pub answers : answer ≡ fitted o (length out)
  pub outputs : out' ≡ output_of o (fitted o (length out)) out

pub fit_refused : {o : Outcome} {out : List ℕ} {q : Refusal} → o ≡ refused q → Fitted o out (Err q) out
unfolding fitted output_of
fit_refused e = record { answers = rw e; outputs = rw e }

-- 10
pub fit_short : {o : Outcome} {out : List ℕ} (bytes : List ℕ) → o ≡ written bytes → length out < length bytes → Fitted o out (Err ShortOutput) out
unfolding fitted output_of
fit_short {out = out} bytes e h =
    let s = lt-ltb (length out) (length bytes) h in
    record { answers = rw (e, s); outputs = rw (e, s) }

pub fit_written : {o : Outcome} {out out' : List ℕ} {n : ℕ} (bytes : List ℕ) → o ≡ written bytes → n ≡ length bytes → n ≤ length out → out' ≡ bytes ++ drop n out
    → Fitted o out (Ok n) out'
unfolding fitted output_of
fit_written {out = out} bytes e m h q =
    let s = le-ltb (length out) (length bytes) (rw m at h) in
    record { answers = rw (e, s, m); outputs = rw (e, s, ← m) q }

-- an outcome that a chain of checks comes to
pub fit_as : {o p : Outcome} {out out' : List ℕ} {answer : Answer} → o ≡ p → Fitted p out answer out' → Fitted o out answer out'
fit_as e f = rw e f

-- 1
pub promise_1 : (o : Outcome) (work out : List ℕ) → length work < work_length → Promise o work out (Err WorkArea) work out
unfolding answer_of output_of work_of
promise_1 o work out h =
    let e = lt-ltb (length work) work_length h in
    record { answers = rw e; outputs = rw e (untouched o); clears = rw e }
  where
    untouched : (o : Outcome) → out ≡ output_of o (Err WorkArea) out
    untouched (refused q) = refl
    untouched (written bytes) = refl

-- the first numbers of the lent work are cleared in the end
pub promise_of : {o : Outcome} {work v out out' : List ℕ} {answer : Answer} → work_length ≤ length work → v ≡ zeros work_length
    → Fitted o out answer out' → Promise o work out answer (v ++ drop work_length work) out'
unfolding answer_of work_of
promise_of {work = work} h z f =
    let e = le-ltb (length work) work_length h in
    record { answers = rw e f.answers; outputs = rw e f.outputs; clears = rw (e, z) }
