use Rattle.std.proofs.Common.{◌≡◌}
use Rattle.text_bytes.specs.Text.{text, write, blanks}
use Rattle.text_bytes.proofs.spaces.Given as goal

abbrev pub invariant-loop : goal.invariant-loop
invariant-loop l = text l.out l.to ≡ write (text l.initial.out l.at) (blanks l.counter)
