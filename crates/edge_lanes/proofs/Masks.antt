-- Masks of lists of tests.
use Rattle.std.proofs.Common.{◌≡◌, ℕ, ◌<◌, ◌*◌, ◌^◌, ◌+◌, ◌/◌, ◌%◌, arith, Bool, true, false, ◌&&◌, cond, refl, sym, ap, ap₂, ◌∙◌, List, [], ◌∷◌, map, bit_and}
use Rattle.std.specs.List.{range_with_len}
use Rattle.std.proofs.lemmas.Simd.{mask_l-lt}
use Rattle.std.proofs.lemmas.Nat.{and_block}
use Rattle.std.specs.Simd.Lanes.{mask_l, Each1}
use Rattle.cull_base.specs.Piece.{each_sample}
use Rattle.edge_lanes.specs.Lanes.{columns, row_of}
use Rattle.edge_lanes.proofs.Lanes.{mask_of_eight}

-- an operation that joins masks bit by bit
pub record Joins (op : ℕ → ℕ → ℕ) (by : Bool → Bool → Bool) : Type 0 where
  pub none : op (op 0 0) 0 ≡ 0
  pub block : (k a b r s : ℕ) → r < 2 ^ k → s < 2 ^ k → op (a * 2 ^ k + r) (b * 2 ^ k + s) ≡ op a b * 2 ^ k + op r s
  pub both : op 1 1 ≡ cond (by true true) 1 0
  pub first : op 1 0 ≡ cond (by true false) 1 0
  pub second : op 0 1 ≡ cond (by false true) 1 0
  pub neither : op 0 0 ≡ cond (by false false) 1 0
  pub three : (a b d : Bool) → by (by a b) d ≡ by a (by b d)

join_bits : (op : ℕ → ℕ → ℕ) (by : Bool → Bool → Bool) → Joins op by → (x y : Bool) → op (cond x 1 0) (cond y 1 0) ≡ cond (by x y) 1 0
join_bits op by j true true = j.both
join_bits op by j true false = j.first
join_bits op by j false true = j.second
join_bits op by j false false = j.neither

join_low : (op : ℕ → ℕ → ℕ) (by : Bool → Bool → Bool) → Joins op by → (x y : Bool) (m n : ℕ) → op (cond x 1 0 + 2 * m) (cond y 1 0 + 2 * n) ≡ cond (by x y) 1 0 + 2 * op m n
join_low op by j x y m n =
    let p : cond x 1 0 + 2 * m ≡ m * 2 ^ 1 + cond x 1 0 = omega arith in
    let q : cond y 1 0 + 2 * n ≡ n * 2 ^ 1 + cond y 1 0 = omega arith in
    rw (p, q) (j.block 1 m n (cond x 1 0) (cond y 1 0) (bit_lt x) (bit_lt y) ∙ same (op m n) (op (cond x 1 0) (cond y 1 0)) (cond (by x y) 1 0) (join_bits op by j x y))
  where
    bit_lt : (b : Bool) → cond b 1 0 < 2 ^ 1
    bit_lt true = omega arith
    bit_lt false = omega arith

    same : (k a b : ℕ) → a ≡ b → k * 2 ^ 1 + a ≡ b + 2 * k
    same k a b e = omega (arith, e)

-- three masks, joined
pub mask_l-joined : (op : ℕ → ℕ → ℕ) (by : Bool → Bool → Bool) → Joins op by → (f g h : ℕ → Bool) (cs : List ℕ) →
    op (op (mask_l (map f cs)) (mask_l (map g cs))) (mask_l (map h cs)) ≡ mask_l (map (λ c. by (f c) (by (g c) (h c))) cs)
mask_l-joined op by j f g h [] = j.none
mask_l-joined op by j f g h (c ∷ cs) =
    let e = mask_l-joined op by j f g h cs in let one = join_low op by j (f c) (g c) (mask_l (map f cs)) (mask_l (map g cs)) in
    let two = join_low op by j (by (f c) (g c)) (h c) (op (mask_l (map f cs)) (mask_l (map g cs))) (mask_l (map h cs)) in
    let three = j.three (f c) (g c) (h c) in
    rw (one, two, e, three) refl

and_joins : Joins bit_and ◌&&◌
and_joins = record { none = refl; block = and_block; both = refl; first = refl; second = refl; neither = refl; three = and_assoc }
  where
    and_assoc : (a b d : Bool) → ((a && b) && d) ≡ (a && (b && d))
    and_assoc true b d = refl
    and_assoc false b d = refl

pub mask_l-and_samples : (f g h : ℕ → Bool) → bit_and (bit_and (mask_l (each_sample f)) (mask_l (each_sample g))) (mask_l (each_sample h)) ≡ mask_l (each_sample (λ k. f k && (g k && h k)))
unfolding each_sample
mask_l-and_samples f g h = mask_l-joined bit_and ◌&&◌ and_joins f g h (range_with_len 0 32)

pub row_of-and : (f g h : ℕ → Bool) (r : ℕ) → bit_and (bit_and (row_of f r) (row_of g r)) (row_of h r) ≡ row_of (λ k. f k && (g k && h k)) r
unfolding row_of
row_of-and f g h r = mask_l-joined bit_and ◌&&◌ and_joins (λ c. f (8 * r + c)) (λ c. g (8 * r + c)) (λ c. h (8 * r + c)) columns

-- where the three rows are given
pub row_of-all : (f g h : ℕ → Bool) (r l m n v : ℕ) → v ≡ bit_and (bit_and l m) n → l ≡ row_of f r → m ≡ row_of g r → n ≡ row_of h r → v ≡ row_of (λ k. f k && (g k && h k)) r
row_of-all f g h r l m n v ev el em en = rw (ev, el, em, en) (row_of-and f g h r)

-- a mask is made of its four rows
pub mask_of_rows : (p : ℕ → Bool) → mask_l (each_sample p) ≡ (row_of p 0 + row_of p 1 * 256) + (row_of p 2 + row_of p 3 * 256) * 65536
unfolding each_sample row_of
mask_of_rows p = omega arith

pub mask_from_rows : (p : ℕ → Bool) (a b c d m : ℕ) → m ≡ (a + b * 256) + (c + d * 256) * 65536 → a ≡ row_of p 0 → b ≡ row_of p 1 → c ≡ row_of p 2 → d ≡ row_of p 3 → m ≡ mask_l (each_sample p)
mask_from_rows p a b c d m em ea eb ec ed = rw (em, ea, eb, ec, ed) (sym (mask_of_rows p))

map_same : (f g : ℕ → Bool) (cs : List ℕ) → ((k : ℕ) → k < 8 → f k ≡ g k) → Each1 (λ k. k < 8) cs → map f cs ≡ map g cs
map_same f g [] h b = refl
map_same f g (c ∷ cs) h b = ap₂ (λ x (xs : List Bool). x ∷ xs) (h c b.0) (map_same f g cs h b.1)

-- the row of a test by row and column
pub row_of_test : (f : ℕ → ℕ → Bool) (r : ℕ) → mask_l (map (λ c. f r c) columns) ≡ row_of (λ k. f (k / 8) (k % 8)) r
unfolding row_of
row_of_test f r =
    ap mask_l (map_same (λ c. f r c) (λ c. f ((8 * r + c) / 8) ((8 * r + c) % 8)) columns
    (λ k h. let d : (8 * r + k) / 8 ≡ r = omega arith in let m : (8 * r + k) % 8 ≡ k = omega arith in rw (d, m) refl)
    (omega arith, (omega arith, (omega arith, (omega arith, (omega arith, (omega arith, (omega arith, (omega arith, tt)))))))))

-- eight lanes that are a row's tests
pub row_of_lanes : (f : ℕ → Bool) (test : ℕ → ℕ → Bool) (r : ℕ) → ((k : ℕ) → k < 8 → f k ≡ test r k) →
    mask_l (f 0 ∷ f 1 ∷ f 2 ∷ f 3 ∷ f 4 ∷ f 5 ∷ f 6 ∷ f 7 ∷ []) % 18446744073709551616 ≡ row_of (λ k. test (k / 8) (k % 8)) r
row_of_lanes f test r h = mask_of_eight f (λ k. test r k) h ∙ row_of_test test r

row_of-lt : (p : ℕ → Bool) (r : ℕ) → row_of p r < 2 ^ 8
unfolding row_of
row_of-lt p r = mask_l-lt (map (λ c. p (8 * r + c)) columns)

pub row_byte : (m : ℕ) (p : ℕ → Bool) (r : ℕ) → m ≡ row_of p r → m < 2 ^ 8
row_byte m p r e = rw e (row_of-lt p r)
