-- Going round n numbers from any of them: every one is reached, and by one way below n alone. Assumes nothing.
use Rattle.std.specs.Prelude.{◌≡◌, ◌⊎◌, ℕ, ◌+◌, ◌-◌, ◌*◌, ◌%◌, ◌<◌, ◌≤◌}
use Rattle.std.proofs.Common.{sym, ◌∙◌, inl, inr, ⊎_elim, mod-lt, mod-eq_of_lt, arith}
use Rattle.std.proofs.Math.Nat.{mod-eq-sub-mod, mod-add-mod}
use Rattle.law_rules.specs.Cases.{below_or}

module _ (n : ℕ) where
  -- a sum of two numbers below n, modulo n
  wrap : (x : ℕ) → x < 2 * n → ((x < n) × (x % n ≡ x)) ⊎ ((n ≤ x) × (x % n + n ≡ x))
  wrap x h =
      ⊎_elim
      (λ l. inl (l, mod-eq_of_lt l))
      (λ l. let m : x - n < n = omega arith in let q : x % n ≡ x - n = mod-eq-sub-mod l ∙ mod-eq_of_lt m in inr (l, omega arith))
      (below_or x n)

  -- how far x is up from s
  up_from : (s x : ℕ) → s < n → x < n → (d : ℕ) × ((d < n) × ((s + d) % n ≡ x))
  up_from s x hs hx =
      ⊎_elim
      (λ l. (n - s + x, (omega arith, ⊎_elim (λ u. omega arith) (λ u. omega arith) (wrap (s + (n - s + x)) (omega arith)))))
      (λ l. (x - s, (omega arith, ⊎_elim (λ u. omega arith) (λ u. omega arith) (wrap (s + (x - s)) (omega arith)))))
      (below_or x s)

  -- from s, two ways that end at one number are as far
  as-far : (s d e : ℕ) → s < n → d < n → e < n → (s + d) % n ≡ (s + e) % n → d ≡ e
  as-far s d e hs hd he q =
      ⊎_elim (λ u. ⊎_elim (λ w. omega arith) (λ w. omega arith) (wrap (s + e) (omega arith)))
      (λ u. ⊎_elim (λ w. omega arith) (λ w. omega arith) (wrap (s + e) (omega arith)))
      (wrap (s + d) (omega arith))

  -- every number below n is reached
  pub round-to : (from x : ℕ) → x < n → (d : ℕ) × ((d < n) × ((from + d) % n ≡ x))
  round-to from x h =
      let r = up_from (from % n) x (mod-lt from (omega arith)) h in
      (r.0, (r.1.0, sym (mod-add-mod from n r.0) ∙ r.1.1))

  -- and by one way alone
  pub round-once : (from d e : ℕ) → d < n → e < n → (from + d) % n ≡ (from + e) % n → d ≡ e
  round-once from d e hd he q = as-far (from % n) d e (mod-lt from (omega arith)) hd he (mod-add-mod from n d ∙ q ∙ sym (mod-add-mod from n e))
