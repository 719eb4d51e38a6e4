use Rattle.std.proofs.Common.{◌≡◌, ℕ, zero, suc, ℤ, pos, negsuc, nat_abs, ◌≤◌, ◌/◌, ◌^◌, ◌-ℤ◌, ◌*ℤ◌, ◌<ℤ◌, arith, FitsSigned, w64, to_z, of_z, ◌∙◌, ap}
use Rattle.std.proofs.lemmas.Int.{ints, to_z-of_z}
use Rattle.cull_base.specs.Bounds.{Bounded}
use Rattle.cull_base.specs.Depth.{floor_of}
use Rattle.edge_lanes.proofs.Floors.{lt_of}
use Rattle.edge_lanes.proofs.crossing.parts.Goals as goal
use Rattle.edge_lanes.proofs.crossing.parts.Goals.{then-numerator-lt0, else-numerator-lt0}

-- of a negative number the quotient of what lies between it and -1 counts down from -1
counted_down : (n d : ℤ) (p r : ℕ) → n <ℤ pos 0 → Bounded (2 ^ 62) n → d ≡ negsuc 0 -ℤ n → r ≡ nat_abs d / p → to_z w64 (of_z w64 (negsuc 0 -ℤ to_z w64 r)) ≡ floor_of n (pos p)
counted_down (pos a) d p r h b ed er = absurd (omega (arith, ints, h))
counted_down (negsuc a) d p r h b ed er =
    let e : d ≡ pos a = omega (arith, ints, ed) in
    let f : r ≡ a / p = er ∙ ap (λ (v : ℤ). nat_abs v / p) e in
    let k : a / p ≤ a = smaller a p in
    rw f (last a (a / p) k b)
  where
    smaller : (a p : ℕ) → a / p ≤ a
    smaller a zero = omega arith
    smaller a (suc p) = omega arith

    last : (a q : ℕ) → q ≤ a → Bounded (2 ^ 62) (negsuc a) → to_z w64 (of_z w64 (negsuc 0 -ℤ to_z w64 q)) ≡ negsuc q
    last a q k b = omega (arith, ints, k, b)

pub returns-then-numerator-lt0-2 : goal.returns-then-numerator-lt0-2
returns-then-numerator-lt0-2 c =
    let near = c.requires in
    let fp : FitsSigned w64 c.args.pixels = c.ranges.pixels in
    let fn : FitsSigned w64 (c.args.pixels *ℤ pos 4294967296) = omega (arith, ints, near) in
    let b : Bounded (2 ^ 62) (c.args.pixels *ℤ pos 4294967296) = omega (arith, ints, near) in
    let l : (c.args.pixels *ℤ pos 4294967296) <ℤ pos 0 = lt_of _ _ (simp to_z-of_z at c.if-numerator-lt0-2.true) in
    let fd : FitsSigned w64 (negsuc 0 -ℤ (c.args.pixels *ℤ pos 4294967296)) = omega (arith, ints, near) in
    elim c.if-numerator-lt0.branch [
      | then-numerator-lt0 w ↦ counted_down (c.args.pixels *ℤ pos 4294967296) _ c.args.size.now.number c.quotient-whole.result l b (simp to_z-of_z at w.distance-is) c.quotient-whole.ensures
      | else-numerator-lt0 w ↦ absurd (let t = c.if-numerator-lt0-2.true in let u = w.if-numerator-lt0.false in cc)
    ]
