-- Every kept pair of a table is the pair of some listed glyph in some map.
use Rattle.std.specs.Prelude.{ℕ, ◌<◌, ◌≡◌, true, not, List, map, length, get_or, ltb}
use Rattle.std.proofs.Common.{sym, ◌∙◌, ltb-true}
use Rattle.lists.specs.Gather.{select}
use Rattle.lists.specs.Search.{member}
use Rattle.lists.specs.Order.{ascending, without}
use Rattle.lists.proofs.Choices.{either_of}
use Rattle.lists.proofs.Each.{both_hold}
use Rattle.lists.proofs.Places.{member-append}
use Rattle.lists.proofs.Members.{member-without}
use Rattle.lists.proofs.Ascending.{member-ascending, member-select}
use Rattle.lists.proofs.Sieves.{mapped_from, flat_from}
use Rattle.rules.specs.Lists.{old_id}
use Rattle.rules.specs.Numbering.{pair_of, counts, named_pairs, first_pairs, in_order, kept_pairs}
use Rattle.laws.specs.Kept.{first_pairs_lem}

pub record Named (maps : ℕ) (t es : List ℕ) (p : ℕ) : Type 0 where
  pub map : ℕ
  pub place : ℕ
  pub known : map < maps
  pub counted : counts t map ≡ true
  pub inside : place < length es
  pub is : p ≡ pair_of t map (old_id (get_or es place 0))

named_from : (maps : ℕ) (t es : List ℕ) (p : ℕ) → member p (named_pairs maps t es) ≡ true → Named maps t es p
unfolding named_pairs
named_from maps t es p h =
    let used = select (λ m. counts t m) maps in
    let a = flat_from (λ m. map (λ e. pair_of t m (old_id e)) es) used p h in
    let m = a.0 in
    let known = both_hold (ltb m maps) (counts t m) (sym (member-select (λ k. counts t k) m maps) ∙ a.1) in
    let b = mapped_from (λ e. pair_of t m (old_id e)) 0 es p a.2 in
    record { map = m; place = b.0; known = ltb-true m maps known.0; counted = known.1; inside = b.1; is = b.2 }

-- those that come first are named too
pub kept_named : (maps : ℕ) (t es : List ℕ) (p : ℕ) → 0 < maps → member p (kept_pairs maps t es) ≡ true → Named maps t es p
unfolding kept_pairs in_order
kept_named maps t es p l h =
    let first = first_pairs t es in
    let sorted = ascending (named_pairs maps t es) in
    named_from maps t es p
    (either_of (member p first) (member p (without first sorted)) (sym (member-append p first (without first sorted)) ∙ h)
    (λ e. (first_pairs_lem maps t es l).named p e)
    (λ e. sym (member-ascending p (named_pairs maps t es)) ∙ (both_hold (not (member p first)) (member p sorted) (sym (member-without p first sorted) ∙ e)).1))
