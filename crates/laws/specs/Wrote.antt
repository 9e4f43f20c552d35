-- An accepted call wrote what its outcome says: it is the front of the output.
use Rattle.std.specs.Prelude.{ℕ, ◌≡◌, Bool, true, false, List, length, take, drop, ltb, Ok, Err}
use Rattle.std.proofs.Common.{sym, ap}
use Rattle.std.proofs.lemmas.Bool.{false≢true}
use Rattle.std.proofs.Math.Seq.{take-append_seam}
use Rattle.lists.specs.Pick.{pick}
use Rattle.rules.specs.declared.Refusal.{Refusal}
use Rattle.rules.specs.declared.Refusal.TheVariants.{WorkArea, ShortOutput}
use Rattle.rules.specs.Numbers.{Outcome, refused, written, Answer}
use Rattle.rules.specs.Promise.{Promise, work_length, answer_of, fitted, output_of}

abbrev accepts : Answer → Bool
accepts (Ok n) = true
accepts (Err r) = false

abbrev length_in : Answer → ℕ
length_in (Ok n) = n
length_in (Err r) = 0

not_accepted : {n : ℕ} {r : Refusal} → Ok n ≡ Err r → ⊥
not_accepted e = false≢true (sym (ap accepts e))

-- the outcome behind an accepted answer: its bytes are as many as answered, and stand at the front of the output
wrote : (o : Outcome) (short : Bool) (room n : ℕ) (out out' : List ℕ) → Ok n ≡ pick short (Err WorkArea) (fitted o room)
    → out' ≡ output_of o (pick short (Err WorkArea) (fitted o room)) out → o ≡ written (take n out')
unfolding fitted output_of
wrote o true room n out out' e f = absurd (not_accepted e)
wrote (refused r) false room n out out' e f = absurd (not_accepted e)
wrote (written bytes) false room n out out' e f = fits (ltb room (length bytes)) e f
  where
    fits : (b : Bool) → Ok n ≡ pick b (Err ShortOutput) (Ok (length bytes))
        → out' ≡ output_of (written bytes) (pick b (Err ShortOutput) (Ok (length bytes))) out → written bytes ≡ written (take n out')
    fits true e f = absurd (not_accepted e)
    fits false e f =
        let size : n ≡ length bytes = ap length_in e in
        rw (f, size) (ap written (sym (take-append_seam bytes (drop (length bytes) out))))

pub call_wrote : {o : Outcome} {work out work' out' : List ℕ} {n : ℕ} → Promise o work out (Ok n) work' out' → o ≡ written (take n out')
unfolding answer_of
call_wrote {o} {work} {out} {work'} {out'} {n} p = wrote o (ltb (length work) work_length) (length out) n out out' p.answers p.outputs
