-- The text of a get's answer, in ASCII. Assumes nothing.
use Rattle.std.specs.Prelude.{List, ◌++◌, ℕ, Result, Ok, Err}
use Rattle.text_bytes.specs.Text.{say}
use Rattle.text_names.specs.Names.{end, field, name_at}
use Rattle.rules_calls.specs.declared.Granted.{Granted}
use Rattle.rules_calls.specs.declared.Reply.{Reply}
use Rattle.rules_calls.specs.Calls.{number_of}
use Rattle.rules_calls.specs.declared.Refusal.{Refusal}

-- the answer to a get: a refused one names no frame and no class
unfoldable pub granted_text : Result Granted Refusal → List ℕ
granted_text (Ok g) = field "0 Done frame " g.frame ++ field " class " g.class
granted_text (Err x) = name_at (number_of x) ++ say " frame - class -"

unfoldable pub reply_text : Reply → List ℕ
reply_text r = say "get " ++ granted_text r.granted ++ field " looks " r.looks ++ field " tries " r.tries ++ end
