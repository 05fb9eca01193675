-- Laws of the loops: words written one after the other are a list of what was written. Assumes nothing.
use Rattle.std.specs.Prelude.{◌≡◌, refl, List, [], ◌∷◌, ℕ, suc, ◌+◌, ◌-◌, ◌<◌, ◌≤◌, length, take, drop, get_or, set}
use Rattle.std.proofs.Common.{ap, ap₂, sym, ◌∙◌, ⊎_elim, add-zero, zero-add, eq-or-lt_of_le, arith, length-set, get_or-set_same, get_or-set_other}
use Rattle.std.proofs.Common.{rules}
use Rattle.std.proofs.lemmas.List.{places, get_or_append_left, get_or-append_right, length-take, length-drop}
use borrow.Rule.Slice.PartMut.{put_mid, same_len_mid}
use Rattle.law_rules.specs.Cases.{below_or}
use Rattle.rules.specs.Base.{listed}

-- the words before place t are f of their place
abbrev Written : (ℕ → ℕ) → ℕ → List ℕ → Type 0
Written f t xs = (i : ℕ) → i < t → get_or xs i 0 ≡ f i

-- ys is xs with v stored from place a up to place b
pub record Filled {A : Type 0} (a b : ℕ) (v : A) (xs ys : List A) : Type 0 where
  pub len : length ys ≡ length xs
  pub kept : (i : ℕ) (d : A) → i < a → get_or ys i d ≡ get_or xs i d
  pub stored : (i : ℕ) (d : A) → a ≤ i → i < b → get_or ys i d ≡ v

module _ {A : Type 0} (v : A) (xs : List A) (a : ℕ) where
  -- nothing stored yet
  pub filled_none : Filled a a v xs xs
  filled_none = record { len = refl; kept = λ i d l. refl; stored = λ i d l m. absurd (omega arith) }

  -- one word more
  pub filled_more : (ys : List A) (b : ℕ) → a ≤ b → b < length ys → Filled a b v xs ys → Filled a (b + 1) v xs (set ys b v)
  filled_more ys b h m e = record {
    len = length-set ys b v ∙ e.len;
    kept = λ i d l. get_or-set_other ys b i v d (λ (r : i ≡ b). omega arith) ∙ e.kept i d l;
    stored = λ i d l k.
        ⊎_elim (λ (r : i ≡ b). rw r (get_or-set_same ys b v d m))
        (λ (r : i < b). get_or-set_other ys b i v d (λ (s : i ≡ b). omega arith) ∙ e.stored i d l r)
        (eq-or-lt_of_le (let g : i ≤ b = omega arith in g));
  }

-- a part of the words stored as a whole
pub filled-part : {A : Type 0} (a b : ℕ) (v : A) (xs ys : List A) → a ≤ b → b ≤ length xs
    → Filled 0 (b - a) v (take (b - a) (drop a xs)) ys → Filled a b v xs (put_mid a (b - a) xs ys)
filled-part a b v xs ys l m e = record {
  len = same_len_mid a (b - a) xs ys e.len;
  kept = λ i d k. search (rules, places);
  stored = λ i d k h.
      let n : length (take a xs) ≡ a = omega (arith, length-take a xs) in
      let n' : length ys ≡ b - a = omega (arith, e.len, length-take (b - a) (drop a xs), length-drop a xs) in
      get_or-append_right (take a xs) _ a i d n k ∙ get_or_append_left ys _ d (i - a) (omega arith) ∙ e.stored (i - a) d (omega arith) (omega arith);
}

-- words written before place a, and then the same up to place b
written-filled : (f : ℕ → ℕ) (xs ys : List ℕ) (a b v : ℕ) → Written f a xs → ((i : ℕ) → a ≤ i → i < b → v ≡ f i) → Filled a b v xs ys → Written f b ys
written-filled f xs ys a b v w h e i l =
    ⊎_elim (λ (k : i < a). e.kept i 0 k ∙ w i k) (λ (k : a ≤ i). e.stored i 0 k l ∙ h i k l) (below_or i a)

-- all words
written_all : (f : ℕ → ℕ) (xs : List ℕ) (a : ℕ) → ((i : ℕ) → i < length xs → get_or xs i 0 ≡ f (a + i)) → xs ≡ listed f a (length xs)
unfolding listed
written_all f [] a h = refl
written_all f (x ∷ xs) a h =
    ap₂ ◌∷◌ (h 0 (omega arith) ∙ ap f (add-zero a))
    (written_all f xs (suc a) (λ i l. h (suc i) (omega arith) ∙ ap f (let g : a + suc i ≡ suc a + i = omega arith in g)))

-- a loop that has passed all words
written-end : (f : ℕ → ℕ) (xs ys : List ℕ) (t : ℕ) → length xs ≡ length ys → length ys ≤ t → Written f t xs → xs ≡ listed f 0 (length ys)
written-end f xs ys t e l h = rw (← e) (written_all f xs 0 (λ i m. h i (omega arith) ∙ ap f (sym (zero-add i))))

module _ (f : ℕ → ℕ) (xs : List ℕ) where
  -- all words stored alike
  pub all-filled : (ys : List ℕ) (v : ℕ) → ((i : ℕ) → i < length xs → v ≡ f i) → Filled 0 (length xs) v xs ys → ys ≡ listed f 0 (length xs)
  all-filled ys v h e =
      written-end f ys xs (length xs) e.len (omega arith) (written-filled f xs ys 0 (length xs) v (λ i l. absurd (omega arith)) (λ i k l. h i l) e)

  -- words stored alike up to place t, that one, and the others alike
  pub parts-filled : (ys zs ws : List ℕ) (t u v w : ℕ) → t < length xs → ((i : ℕ) → i < t → u ≡ f i) → v ≡ f t → ((i : ℕ) → t < i → w ≡ f i)
      → Filled 0 t u xs ys → Filled t (t + 1) v ys zs → Filled (t + 1) (length xs) w zs ws → ws ≡ listed f 0 (length xs)
  parts-filled ys zs ws t u v w m p q r d e g =
      let a : Written f t ys = written-filled f xs ys 0 t u (λ i l. absurd (omega arith)) (λ i k l. p i l) d in
      let b : Written f (t + 1) zs = written-filled f ys zs t (t + 1) v a (λ i k l. let same : i ≡ t = omega arith in rw same q) e in
      let n : length ws ≡ length xs = g.len ∙ e.len ∙ d.len in
      written-end f ws xs (length xs) n (omega arith) (written-filled f zs ws (t + 1) (length xs) w b (λ i k l. r i (omega arith)) g)
