-- `local_payers::payer_in` meets its contract. The loop's invariant: the classes from here on give the same payer as all of them, by the test that `may` is. Assumes nothing.
use Rattle.std.proofs.Common.{◌≡◌, Bool, ◌-◌}
use Rattle.rules.specs.Words.{config}
use Rattle.rules.specs.declared.Kind.{Kind}
use Rattle.rules.specs.Locals.{payer_in}
use Rattle.local_payers.proofs.payer_in.Given as goal

abbrev pub invariant-loop-d : goal.invariant-loop-d
invariant-loop-d g l =
    (p : Kind → Bool) → ((kind : Kind) (r : Bool) → goal.F-post g l.may kind r → r ≡ p kind)
    → payer_in p (config l.h l.table) l.locals l.class l.from l.name l.n l.d (8 - l.d)
    ≡ payer_in p (config l.h l.table) l.locals l.class l.from l.name l.n l.i (8 - l.i)
