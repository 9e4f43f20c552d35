-- Document 01, "Examples (P: to be proved)": P1 to P10 come out byte for byte, by computation alone.
use Rattle.std.proofs.Common.{◌≡◌, refl, map}
use Rattle.rules.specs.Calls.{hex, run, no_cut, yes_cut}
use Rattle.rules.specs.Examples.{S, P1, examples}

pub all_right : map (λ e. run e.call) examples ≡ map (λ e. e.gives) examples
unfolding examples S P1 hex run no_cut yes_cut
all_right = refl
