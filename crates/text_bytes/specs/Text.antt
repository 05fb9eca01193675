-- A text in a buffer: bytes are written one after the other, as long as there is room. Assumes nothing.
use Rattle.std.specs.Prelude.{◌≡◌, refl, Bool, true, false, List, [], ◌∷◌, ◌++◌, ℕ, zero, suc, ◌+◌, ◌≤◌, ◌<◌, ltb, length, set, get_or, take, drop}
use Rattle.std.proofs.Common.{sym, ap, ap₂, ◌∙◌, append-nil, add-zero, add-one, arith, length-set, take-suc, lt-ltb, le-ltb}
use Prim.Native.Char.{code}
use Prim.Native.String.{String, [] as end, ◌∷◌ as ◌then◌}
use Rattle.std.proofs.lemmas.List.Edits.{sets, sets-eq}
use Rattle.std.proofs.Math.Seq.{paste, take-length}

-- a buffer's bytes, and the place past what is written
pub record Text : Type 0 where
  pub bytes : List ℕ
  pub at : ℕ

abbrev pub text : List ℕ → ℕ → Text
text bs at = record { bytes = bs; at = at }

-- a byte more, if there is room
unfoldable pub byte_if : Bool → Text → ℕ → Text
byte_if true t b = text (set t.bytes t.at b) (t.at + 1)
byte_if false t b = t

unfoldable pub byte : Text → ℕ → Text
byte t b = byte_if (ltb t.at (length t.bytes)) t b

-- bytes, one after the other
unfoldable pub write : Text → List ℕ → Text
write t [] = t
write t (b ∷ bs) = write (byte t b) bs

-- n spaces
unfoldable pub blanks : ℕ → List ℕ
blanks zero = []
blanks (suc n) = 32 ∷ blanks n

-- the bytes of a quoted text
unfoldable pub say : String → List ℕ
say end = []
say (c then s) = code c ∷ say s

-- ---- what writing is

pub byte-room : (t : Text) (b : ℕ) → t.at < length t.bytes → byte t b ≡ text (set t.bytes t.at b) (t.at + 1)
unfolding byte byte_if
byte-room t b h = ap (λ (x : Bool). byte_if x t b) (lt-ltb t.at (length t.bytes) h)

pub byte_full : (t : Text) (b : ℕ) → length t.bytes ≤ t.at → byte t b ≡ t
unfolding byte byte_if
byte_full t b h = ap (λ (x : Bool). byte_if x t b) (le-ltb t.at (length t.bytes) h)

-- one text after another
pub write-more : (t : Text) (xs ys : List ℕ) → write t (xs ++ ys) ≡ write (write t xs) ys
unfolding write
write-more t [] ys = refl
write-more t (x ∷ xs) ys = write-more (byte t x) xs ys

pub and_then : (t s u : Text) (xs ys : List ℕ) → s ≡ write t xs → u ≡ write s ys → u ≡ write t (xs ++ ys)
and_then t s u xs ys e f = f ∙ ap (λ (x : Text). write x ys) e ∙ sym (write-more t xs ys)

pub and_byte : (t s u : Text) (xs : List ℕ) (b : ℕ) → s ≡ write t xs → u ≡ byte s b → u ≡ write t (xs ++ (b ∷ []))
unfolding write
and_byte t s u xs b e f = and_then t s u xs (b ∷ []) e f

pub and-nothing : (t u : Text) (xs : List ℕ) → u ≡ write t xs → u ≡ write t (xs ++ [])
and-nothing t u xs e = e ∙ ap (write t) (sym (append-nil xs))

-- nothing is lost where there is room: the bytes stand in the buffer from the place on, and the rest of it is as it was
stores : (t : Text) (bs : List ℕ) → t.at + length bs ≤ length t.bytes → write t bs ≡ text (sets t.bytes t.at bs) (t.at + length bs)
unfolding write
stores t [] h = ap (text t.bytes) (sym (add-zero t.at))
stores t (b ∷ bs) h =
    let room : t.at < length t.bytes = omega arith in
    let l = length-set t.bytes t.at b in
    ap (λ (x : Text). write x bs) (byte-room t b room)
    ∙ stores (text (set t.bytes t.at b) (t.at + 1)) bs (omega arith)
    ∙ ap₂ (λ (k j : ℕ). text (sets (set t.bytes t.at b) k bs) j) (add-one t.at) (omega arith)

pub write-room : (t : Text) (bs : List ℕ) → t.at + length bs ≤ length t.bytes
    → write t bs ≡ text (paste t.bytes t.at bs (length bs)) (t.at + length bs)
write-room t bs h =
    stores t bs h
    ∙ ap (λ (l : List ℕ). text l (t.at + length bs))
    (sets-eq bs t.bytes t.at h
    ∙ ap (λ (l : List ℕ). take t.at t.bytes ++ l ++ drop (t.at + length bs) t.bytes) (sym (take-length bs)))

-- the buffer keeps its length
kept : (x : Bool) (t : Text) (b : ℕ) → length (byte_if x t b).bytes ≡ length t.bytes
unfolding byte_if
kept true t b = length-set t.bytes t.at b
kept false t b = refl

pub byte-length : (t : Text) (b : ℕ) → length (byte t b).bytes ≡ length t.bytes
unfolding byte
byte-length t b = kept (ltb t.at (length t.bytes)) t b

pub write-length : (t : Text) (bs : List ℕ) → length (write t bs).bytes ≡ length t.bytes
unfolding write
write-length t [] = refl
write-length t (b ∷ bs) = write-length (byte t b) bs ∙ byte-length t b

-- the first bytes, and one more
pub write-next : (t : Text) (bs : List ℕ) (i : ℕ) → i < length bs → byte (write t (take i bs)) (get_or bs i 0) ≡ write t (take (i + 1) bs)
unfolding write
write-next t bs i h =
    sym (write-more t (take i bs) (get_or bs i 0 ∷ []))
    ∙ ap (write t) (sym (take-suc bs i 0 h) ∙ ap (λ (k : ℕ). take k bs) (sym (add-one i)))

blanks-last : (n : ℕ) → blanks n ++ (32 ∷ []) ≡ blanks (suc n)
unfolding blanks
blanks-last zero = refl
blanks-last (suc n) = ap (λ (l : List ℕ). 32 ∷ l) (blanks-last n)

pub blanks-next : (t : Text) (i : ℕ) → byte (write t (blanks i)) 32 ≡ write t (blanks (i + 1))
unfolding write
blanks-next t i = sym (write-more t (blanks i) (32 ∷ [])) ∙ ap (write t) (blanks-last i ∙ ap blanks (sym (add-one i)))

pub kept-length : (t u : Text) (bs : List ℕ) → u ≡ write t bs → length u.bytes ≡ length t.bytes
kept-length t u bs e = ap (λ (x : Text). length x.bytes) e ∙ write-length t bs
