use Rattle.std.proofs.Common.{◌≡◌, take}
use Rattle.text_bytes.specs.Text.{text, write}
use Rattle.text_bytes.proofs.append.Given as goal

abbrev pub invariant-loop-b : goal.invariant-loop-b
invariant-loop-b l = text l.out l.to ≡ write (text l.initial.out l.at) (take l.b-index l.src)
