-- A walk from 0 to n visits every tree exactly once: its steps and the trees match one to one. Assumes nothing.
use Rattle.std.specs.Prelude.{◌≡◌, ℕ, ◌+◌, ◌-◌, ◌*◌, ◌/◌, ◌%◌, ◌<◌, eqb}
use Rattle.std.proofs.Common.{sym, ◌∙◌, ⊎_elim, arith, eq-eqb, ne_eqb}
use Rattle.rules.specs.Base.{pick}
use Rattle.rules_calls.specs.Walking.{walk_tree}
use Rattle.law_rules.specs.Cases.{by-eq, below_or}
use Rattle.law_rules.specs.Round.{round-to, round-once}

-- how far step i goes up from the start, modulo n
unfoldable offset : ℕ → ℕ → ℕ
offset n i = pick (eqb (i % 2) 0) (i / 2) (n - (i + 1) / 2)

offset-even : (n i : ℕ) → i % 2 ≡ 0 → offset n i ≡ i / 2
unfolding offset
offset-even n i e = rw (eq-eqb _ _ e)

offset-odd : (n i : ℕ) → (i % 2 ≡ 0 → ⊥) → offset n i ≡ n - (i + 1) / 2
unfolding offset
offset-odd n i e = rw (ne_eqb _ _ e)

walk_tree-offset : (n start i : ℕ) → i < n → walk_tree n start i ≡ (start + offset n i) % n
unfolding walk_tree
walk_tree-offset n start i h =
    by-eq (i % 2) 0
    (λ e. rw (eq-eqb _ _ e, offset-even n i e))
    (λ e. let s : start + n - (i + 1) / 2 ≡ start + (n - (i + 1) / 2) = omega arith in rw (ne_eqb _ _ e, offset-odd n i e, s))

offset-lt : (n i : ℕ) → i < n → offset n i < n
offset-lt n i h =
    by-eq (i % 2) 0 (λ e. rw (offset-even n i e) (omega arith)) (λ e. rw (offset-odd n i e) (omega arith))

-- two steps that go as far are one
offset-one : (n i j : ℕ) → i < n → j < n → offset n i ≡ offset n j → i ≡ j
offset-one n i j hi hj e =
    by-eq (i % 2) 0
    (λ p. by-eq (j % 2) 0 (λ q. omega (arith, offset-even n i p, offset-even n j q)) (λ q. omega (arith, offset-even n i p, offset-odd n j q)))
    (λ p. by-eq (j % 2) 0 (λ q. omega (arith, offset-odd n i p, offset-even n j q)) (λ q. omega (arith, offset-odd n i p, offset-odd n j q)))

-- the step that goes so far
back : (n d : ℕ) → d < n → (i : ℕ) × ((i < n) × (offset n i ≡ d))
back n d h =
    ⊎_elim
    (λ l. let p : 2 * d % 2 ≡ 0 = omega arith in (2 * d, (l, offset-even n (2 * d) p ∙ (omega arith))))
    (λ l. let p : (2 * (n - d) - 1) % 2 ≡ 0 → ⊥ = λ z. omega arith in (2 * (n - d) - 1, (omega arith, offset-odd n (2 * (n - d) - 1) p ∙ (omega arith))))
    (below_or (2 * d) n)

-- every tree is visited
pub every-tree : (n start t : ℕ) → t < n → (i : ℕ) × ((i < n) × (walk_tree n start i ≡ t))
every-tree n start t h =
    let r = round-to n start t h in
    let b = back n r.0 r.1.0 in
    (b.0, (b.1.0, walk_tree-offset n start b.0 b.1.0 ∙ rw b.1.1 r.1.1))

-- and only once
pub only-once : (n start i j : ℕ) → i < n → j < n → walk_tree n start i ≡ walk_tree n start j → i ≡ j
only-once n start i j hi hj e =
    offset-one n i j hi hj
    (round-once n start (offset n i) (offset n j) (offset-lt n i hi) (offset-lt n j hj) (sym (walk_tree-offset n start i hi) ∙ e ∙ walk_tree-offset n start j hj))
