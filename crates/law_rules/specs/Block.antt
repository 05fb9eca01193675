-- What a caller shows of a block: it is one of the bitmap's. Its halves and the blocks in it are too. Assumes nothing.
use Rattle.std.specs.Prelude.{◌≡◌, List, ℕ, ◌+◌, ◌-◌, ◌*◌, ◌/◌, ◌^◌, ◌<◌, ◌≤◌, length}
use Rattle.std.proofs.Common.{mul-le-mul_left, arith, pow_pos}
use Rattle.law_rules.specs.Power.{pow-half, double, in_tree}

-- the block j of order o is one of the bitmap's; 2^22 words are 1,024 trees of order 18
pub record Block (ws : List ℕ) (o j : ℕ) : Type 0 where
  pub order : o ≤ 18
  pub inside : j * 2 ^ o + 2 ^ o ≤ length ws * 64
  pub small : length ws ≤ 4194304

-- its number is small
pub block-few : (ws : List ℕ) (o j : ℕ) → Block ws o j → j < 268435456
block-few ws o j b =
    let e : j * 2 ^ o + 2 ^ o ≤ length ws * 64 = b.inside in
    let s : length ws ≤ 4194304 = b.small in
    let p : 1 ≤ 2 ^ o = pow_pos o in
    let m : j * 1 ≤ j * 2 ^ o = mul-le-mul_left j p in
    omega arith

-- its halves
pub half-left : (ws : List ℕ) (o w i : ℕ) → w ≤ o → (o ≡ w → ⊥) → Block ws o i → Block ws (o - 1) (i * 2)
half-left ws o w i h ne b =
    let p : 2 ^ o ≡ 2 ^ (o - 1) + 2 ^ (o - 1) = pow-half o (o - 1) (omega arith) in
    let d = double i (2 ^ o) (2 ^ (o - 1)) p in
    let e : i * 2 ^ o + 2 ^ o ≤ length ws * 64 = b.inside in
    record { order = omega (arith, b.order); inside = omega (arith, d.0, p); small = b.small }

pub half-right : (ws : List ℕ) (o w i : ℕ) → w ≤ o → (o ≡ w → ⊥) → Block ws o i → Block ws (o - 1) (i * 2 + 1)
half-right ws o w i h ne b =
    let p : 2 ^ o ≡ 2 ^ (o - 1) + 2 ^ (o - 1) = pow-half o (o - 1) (omega arith) in
    let d = double i (2 ^ o) (2 ^ (o - 1)) p in
    let e : i * 2 ^ o + 2 ^ o ≤ length ws * 64 = b.inside in
    record { order = omega (arith, b.order); inside = omega (arith, d.0, d.1, p); small = b.small }

-- the block of order o that holds a frame of the block of order z
pub block_of : (ws : List ℕ) (z o f : ℕ) → o ≤ z → Block ws z (f / 2 ^ z) → Block ws o (f / 2 ^ o)
block_of ws z o f h b =
    let n = in_tree z o f h in
    let e : f / 2 ^ z * 2 ^ z + 2 ^ z ≤ length ws * 64 = b.inside in
    record { order = omega (arith, b.order); inside = omega (arith, n.high); small = b.small }
