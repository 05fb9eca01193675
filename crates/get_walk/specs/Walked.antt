-- A walk as far as the next tree that is tried at once: laws of a walk in the code's terms. Assumes nothing.
use Rattle.std.specs.Prelude.{◌≡◌, refl, Bool, true, false, List, eqb}
use Rattle.std.proofs.Common.{◌∙◌}
use Prim.Native.Nat.{ℕ, suc, ◌+◌, ◌-◌, ◌*◌, ◌<◌, ◌≤◌}
use native.Mathlib.Omega.{arith}
use borrow.Author.Tests.{eq-eqb, ne_eqb}
use Rattle.rules.specs.Base.{bit_of, ifte, Out, out}
use Rattle.rules.specs.Words.{Config, config, entry_at}
use Rattle.rules.specs.declared.Header.{Header}
use Rattle.rules.specs.declared.Request.{Request}
use Rattle.rules.specs.declared.Tree.{Tree}
use Rattle.rules_calls.specs.declared.Got.{Got}
use Rattle.rules_calls.specs.declared.Walk.{Walk}
use Rattle.rules_calls.specs.State.{State, st, with_look}
use Rattle.get_best.specs.List.{list_of}
use Rattle.get_walk.specs.declared.path.Path.{Path}
use Rattle.get_walk.specs.declared.Stand.{Stand}
use Rattle.get_ends.specs.Ends.{ends, sight-ends, sight-goes}
use Rattle.rules_calls.specs.Walking.{Candidate, Sight, sight, walk_tree, is_full, rate, admit, access, tried, offered, visit, on_sight, walk_steps, walk}

-- a tree that is not tried at once: Invalid enters no list, others go to it
unfoldable pub enlisted : ℕ → ℕ → ℕ → Bool → List Candidate → List Candidate
enlisted m t r full xs = ifte (eqb r 0) (λ _. xs) (λ _. admit m (2 * r + bit_of full) t xs)

goes_on : (b : Bool) (xs ys : List Candidate) (s : State) (next : List Candidate → State → Out Got Sight)
    → on_sight (ifte b (λ _. out Got.Missed (sight xs s)) (λ _. out Got.Missed (sight ys s))) out next ≡ next (ifte b (λ _. xs) (λ _. ys)) s
unfolding ifte on_sight
goes_on true xs ys s next = refl
goes_on false xs ys s next = refl

module _ (c : Config) (q : Request) (w : Walk) (j m n start i last : ℕ) (xs : List Candidate) (s : State) where
  -- no step is left
  pub walk_end : last ≤ i → walk c q w j m n start i last xs s ≡ out Got.Missed (sight xs s)
  unfolding walk walk_steps
  walk_end h = let e : last - i ≡ 0 = omega arith in rw e

  walk_more : i < last
      → walk c q w j m n start i last xs s ≡ on_sight (visit c q w j m (walk_tree n start i) xs s) out (walk c q w j m n start (i + 1) last)
  unfolding walk walk_steps
  walk_more h = let e : last - i ≡ suc (last - (i + 1)) = omega arith in rw e

  -- tree t of this step is not tried at once
  pub walk-passed : (t r : ℕ) (e : Tree) → i < last → t ≡ walk_tree n start i → e ≡ entry_at s.trees t → r ≡ rate c q w e → (r ≡ 258 → ⊥)
      → walk c q w j m n start i last xs s ≡ walk c q w j m n start (i + 1) last (enlisted m t r (is_full c.tree_order e) xs) (with_look s)
  unfolding visit offered enlisted ifte
  walk-passed t r e h a b d ne = rw (walk_more h, ← a, ← b, ← d, ne_eqb _ _ ne) (goes_on (eqb r 0) _ _ _ _)

-- tree t of this step is tried at once
module _ (c : Config) (q : Request) (w : Walk) (j m n start i last : ℕ) (xs : List Candidate) (ts ls bs : List ℕ) (looks tries t : ℕ) (g : Got) (s : State)
    (lt : i < last) (at : t ≡ walk_tree n start i) (now : rate c q w (entry_at ts (walk_tree n start i)) ≡ 258)
    (asked : out g s ≡ access c q w j t (st ts ls bs (looks + 1) tries)) where
  walk-tried : walk c q w j m n start i last xs (st ts ls bs looks tries) ≡ on_sight (out g (sight xs s)) out (walk c q w j m n start (i + 1) last)
  unfolding visit offered ifte tried with_look
  walk-tried = rw (walk_more c q w j m n start i last xs (st ts ls bs looks tries) lt, eq-eqb _ _ now, ← at, ← asked)

  -- and ends the walk
  pub walk_ends : ends g ≡ true → walk c q w j m n start i last xs (st ts ls bs looks tries) ≡ out g (sight xs s)
  walk_ends e = walk-tried ∙ sight-ends _ _ _ g e

  -- and does not
  pub walk-goes : ends g ≡ false → walk c q w j m n start i last xs (st ts ls bs looks tries) ≡ walk c q w j m n start (i + 1) last xs s
  walk-goes e = walk-tried ∙ sight-goes _ _ _ g e

-- from step i on, with this list and these looks, a walk over the trees came to step k, with that list and those looks: with any header the rest of it is the same
pub record Walked (pairs : List ℕ) (q : Request) (w : Walk) (m n start i last : ℕ) (xs : List Candidate) (ts : List ℕ) (looks : ℕ)
    (k : ℕ) (ys : List Candidate) (seen : ℕ) : Type 0 where
  pub same : (h : Header) (j : ℕ) (ls bs : List ℕ) (tries : ℕ)
      → walk (config h pairs) q w j m n start i last xs (st ts ls bs looks tries) ≡ walk (config h pairs) q w j m n start k last ys (st ts ls bs seen tries)
  pub low : i ≤ k
  pub high : k ≤ i + (last - i)
  pub most : seen ≤ looks + (k - i)

-- a walk p went on from step i: as far as a tree that is tried at once (Match 255), or to its last step
abbrev pub WalkedOn : List ℕ → Request → Walk → Path → List ℕ → ℕ → List Candidate → ℕ → Stand → Type 0
WalkedOn pairs q w p ts i xs looks r =
    Walked pairs q w p.m p.n p.start i p.last xs ts looks r.at (list_of p.m r.best) r.looks
    × ((h : Header) → r.at < p.last → rate (config h pairs) q w (entry_at ts (walk_tree p.n p.start r.at)) ≡ 258)
