use native.Mathlib.Omega.{arith}
use Rattle.numbering.proofs.Renumber.{outer_low, size, start_low, place_walked}
use Rattle.numbering.proofs.KeptPairs.place_of.Goals as goal

pub overflow_mul-pair : goal.overflow_mul-pair
overflow_mul-pair c = omega (arith, outer_low c.args.self.now.numbered c.requires)

pub overflow_add-pair : goal.overflow_add-pair
overflow_add-pair c = omega (arith, outer_low c.args.self.now.numbered c.requires, c.requires.small)

pub guess-requires : goal.guess-requires
guess-requires c = (omega (arith, outer_low c.args.self.now.numbered c.requires), c.requires.small)

pub bounds-work-outer : goal.bounds-work-outer
bounds-work-outer c = omega (arith, outer_low c.args.self.now.numbered c.requires, c.args.self.now.numbered.long)

pub slice_bounds-place_among-count : goal.slice_bounds-place_among-count
slice_bounds-place_among-count c = omega (arith, start_low c.args.self.now.numbered c.requires, size c.args.self.now.numbered c.requires)

pub slice_bounds-place_among-start : goal.slice_bounds-place_among-start
slice_bounds-place_among-start c = omega (arith, start_low c.args.self.now.numbered c.requires, size c.args.self.now.numbered c.requires)

pub overflow_add-result : goal.overflow_add-result
overflow_add-result c = omega (arith, c.place_among.ensures.upper_bound, start_low c.args.self.now.numbered c.requires, size c.args.self.now.numbered c.requires, c.args.self.now.numbered.few)

pub returns : goal.returns
returns c = place_walked c.args.self.now.numbered c.requires c.place_among.ensures.value
