-- A start of the archive that is lent the state's own three lists, or three others, is a call of the chain by its promise alone. Assumes nothing.
use Rattle.std.specs.Prelude.{refl, Bool, List, ℕ}
use Rattle.rules.specs.declared.Header.{Header}
use Rattle.rules_calls.specs.Promises.{Words}
use Rattle.llfree_c.specs.Promises.{StartNumber}
use Rattle.thm_sequence.specs.Demand.{own, other}
use Rattle.thm_archive.specs.Chains.{starts, Answered}

-- the state's own lists, which it leaves as its promise says
pub own-call : (h d : Header) (pairs table : List ℕ) (free : Bool) (s : Words) (r : ℕ) (e : Words) → StartNumber d table free s r e → Answered h pairs (starts d table free own own own r) s e
own-call h d pairs table free s r e P = (P, (tt, (tt, tt)))

-- three others: the state stays
pub other-call : (h d : Header) (pairs table : List ℕ) (free : Bool) (x : Words) (r : ℕ) (y s : Words) → StartNumber d table free x r y
    → Answered h pairs (starts d table free (other x.trees y.trees) (other x.locals y.locals) (other x.bits y.bits) r) s s
other-call h d pairs table free x r y s P = (P, (refl, (refl, refl)))
