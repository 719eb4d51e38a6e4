-- Numbers of a picture: how great they may be, and how many rows and pixels go together.
use Rattle.std.proofs.Common.{◌≡◌, ℕ, zero, suc, ◌+◌, ◌-◌, ◌*◌, ◌/◌, ◌%◌, ◌<◌, ◌≤◌, min, arith, refl, ap}
use Rattle.std.proofs.Math.Nat.{div-add-mod, div-mul-le_self, mul-le-mul_right}
use Rattle.cull_base.specs.declared.nearness.Grade.{Grade}
use Rattle.cull_base.specs.declared.nearness.Grade.TheVariants.{Narrow, Wide}
use Rattle.cull_base.specs.Grade.{top_of}
use Rattle.depth_image.specs.Picture.{shade_of}
use Rattle.depth_image.specs.Samples.{cut_shade}

-- a bound up to the grade's top makes a number of 16 bits
pub shade_fits : (grade : Grade) (bound : ℕ) → bound ≤ top_of grade → shade_of grade bound ≤ 65535
shade_fits Narrow bound le = le
shade_fits Wide bound le = omega (arith, le)

-- and so it isn't cut
pub shade_uncut : (grade : Grade) (bound : ℕ) → bound ≤ top_of grade → cut_shade grade bound ≡ shade_of grade bound
shade_uncut grade bound le = least (shade_of grade bound) (shade_fits grade bound le)
  where
    least : (n : ℕ) → n ≤ 65535 → min n 65535 ≡ n
    least n few = omega (arith, few)

-- a quotient that is rounded up
pub ceiling_times : (n w d : ℕ) → d ≡ n / w + min 1 (n % w) → d * w ≤ n + w
ceiling_times n w d e =
    let le : d ≤ n / w + 1 = omega (arith, e) in
    let most : d * w ≤ (n / w + 1) * w = mul-le-mul_right w le in
    let whole : n / w * w ≤ n = div-mul-le_self n w in
    omega (arith, most, whole)

pub ceiling_some : (n w d : ℕ) → 0 < n → d ≡ n / w + min 1 (n % w) → 1 ≤ d
ceiling_some n w d some e = by (n / w) refl (n % w) refl
  where
    by : (q : ℕ) → q ≡ n / w → (r : ℕ) → r ≡ n % w → 1 ≤ d
    by (suc q) eq r er = omega (arith, e, eq)
    by zero eq (suc r) er = omega (arith, e, er)
    by zero eq zero er =
        let none : w * 0 ≡ w * (n / w) = ap (λ (q : ℕ). w * q) eq in
        let whole = div-add-mod n w in
        absurd (omega (arith, whole, none, er, some))

-- rows that go out at once
pub piece_within : (rows height piece : ℕ) → piece < height / rows → rows * piece + rows ≤ height
piece_within rows height piece lt =
    let most : (piece + 1) * rows ≤ height / rows * rows = mul-le-mul_right rows (omega (arith, lt)) in
    let whole : height / rows * rows ≤ height = div-mul-le_self height rows in
    omega (arith, most, whole)

pub pieces_within : (rows height : ℕ) → rows * (height / rows) ≤ height
pieces_within rows height = let whole : height / rows * rows ≤ height = div-mul-le_self height rows in omega (arith, whole)

-- what is left behind them is less than they are
pub left_below : (rows height left : ℕ) → 1 ≤ rows → left ≡ height - rows * (height / rows) → left ≤ rows
left_below rows height left some e =
    let whole = div-add-mod height rows in
    let rest : height % rows ≤ rows = omega (arith, some) in
    omega (arith, whole, rest, e)

-- the room of some rows of pixels
pub room_for : (count rows width : ℕ) → count ≤ rows → rows * width ≤ 4096 → count * width ≤ 4096
room_for count rows width le few = let most : count * width ≤ rows * width = mul-le-mul_right width le in omega (arith, most, few)

pub room_more : (k count width : ℕ) → k < count → k * width + width ≤ count * width
room_more k count width lt = let most : (k + 1) * width ≤ count * width = mul-le-mul_right width (omega (arith, lt)) in omega (arith, most)
