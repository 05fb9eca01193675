-- `text_bytes::put_byte` meets its contract. Assumes nothing.
use mathlib.Core.Path.{sym}
use Rattle.text_bytes.specs.Text.{byte_full, byte-room}
use Rattle.text_bytes.proofs.put_byte.Goals as goal

pub returns-then-at-out : goal.returns-then-at-out
returns-then-at-out c = sym (byte_full _ _ c.if-at-out.true)

pub returns : goal.returns
returns c = sym (byte-room _ _ c.if-at-out.false)
