use Rattle.std.proofs.Common.{◌≡◌, ◌^◌, ◌≤◌, false, ◌*ℤ◌, ◌+ℤ◌, ◌-ℤ◌, ℕ, ℤ, pos, FitsSigned, w64, arith, rules, refl}
use Rattle.std.proofs.lemmas.Int.{ints, to_z-of_z}
use Rattle.cull_base.specs.declared.clip.ClipVertex.{ClipVertex}
use Rattle.near_clip.specs.declared.hom_point.HomPoint.{HomPoint}
use Rattle.cull_base.specs.Bounds.{Bounded}
use Rattle.cull_base.specs.Guard.{is_past_guard}
use Rattle.near_clip.specs.NearPart.{cut_point}
use Rattle.near_clip.proofs.Guarded.{guarded, narrowed}
use Rattle.near_clip.proofs.clip.cut.Goals as goal

-- w, and the near distance, are well inside 64 bits
w_within : (v : ClipVertex) (near : ℕ) → near ≤ 1024 → is_past_guard v near ≡ false → Bounded (2 ^ 24) v.w
w_within v near h g = narrowed near _ h (guarded v near g).w_within

distance_within : (near : ℕ) (n : ℤ) → near ≤ 1024 → n ≡ pos near → Bounded (2 ^ 24) n
distance_within near n h e = (omega (arith, ints, h, e), omega (arith, ints, h, e))

pub narrow_difference-p-requires-clause-a : goal.narrow_difference-p-requires-clause-a
narrow_difference-p-requires-clause-a c = let f : FitsSigned w64 c.args.inside.now.w = search rules in simp to_z-of_z (w_within c.args.inside.now c.args.near c.requires.near c.requires.inside)

pub narrow_difference-p-requires-clause-b : goal.narrow_difference-p-requires-clause-b
narrow_difference-p-requires-clause-b c = let f : FitsSigned w64 c.from-distance.result = search rules in simp to_z-of_z (distance_within c.args.near _ c.requires.near c.from-distance.ensures)

pub narrow_difference-q-requires-clause-a : goal.narrow_difference-q-requires-clause-a
narrow_difference-q-requires-clause-a c = let f : FitsSigned w64 c.from-distance.result = search rules in simp to_z-of_z (distance_within c.args.near _ c.requires.near c.from-distance.ensures)

pub narrow_difference-q-requires-clause-b : goal.narrow_difference-q-requires-clause-b
narrow_difference-q-requires-clause-b c = let f : FitsSigned w64 c.args.outside.now.w = search rules in simp to_z-of_z (w_within c.args.outside.now c.args.near c.requires.near c.requires.outside)

pub narrow_difference-requires-clause-a : goal.narrow_difference-requires-clause-a
narrow_difference-requires-clause-a c = let f : FitsSigned w64 c.args.inside.now.w = search rules in simp to_z-of_z (w_within c.args.inside.now c.args.near c.requires.near c.requires.inside)

pub narrow_difference-requires-clause-b : goal.narrow_difference-requires-clause-b
narrow_difference-requires-clause-b c = let f : FitsSigned w64 c.args.outside.now.w = search rules in simp to_z-of_z (w_within c.args.outside.now c.args.near c.requires.near c.requires.outside)

pub weighted_sum-requires-clause-b : goal.weighted_sum-requires-clause-b
weighted_sum-requires-clause-b c = let f : FitsSigned w64 c.args.outside.now.x = search rules in simp to_z-of_z (narrowed c.args.near _ c.requires.near (guarded c.args.outside.now c.args.near c.requires.outside).x_within)

pub weighted_sum-requires-clause-a : goal.weighted_sum-requires-clause-a
weighted_sum-requires-clause-a c = let f : FitsSigned w64 c.args.inside.now.x = search rules in simp to_z-of_z (narrowed c.args.near _ c.requires.near (guarded c.args.inside.now c.args.near c.requires.inside).x_within)

pub weighted_sum-requires-2-clause-b : goal.weighted_sum-requires-2-clause-b
weighted_sum-requires-2-clause-b c = let f : FitsSigned w64 c.args.outside.now.y = search rules in simp to_z-of_z (narrowed c.args.near _ c.requires.near (guarded c.args.outside.now c.args.near c.requires.outside).y_within)

pub weighted_sum-requires-2-clause-a : goal.weighted_sum-requires-2-clause-a
weighted_sum-requires-2-clause-a c = let f : FitsSigned w64 c.args.inside.now.y = search rules in simp to_z-of_z (narrowed c.args.near _ c.requires.near (guarded c.args.inside.now c.args.near c.requires.inside).y_within)

pub weighted_sum-requires-3-clause-b : goal.weighted_sum-requires-3-clause-b
weighted_sum-requires-3-clause-b c = let f : FitsSigned w64 c.args.outside.now.w = search rules in simp to_z-of_z (narrowed c.args.near _ c.requires.near (guarded c.args.outside.now c.args.near c.requires.outside).w_within)

pub weighted_sum-requires-3-clause-a : goal.weighted_sum-requires-3-clause-a
weighted_sum-requires-3-clause-a c = let f : FitsSigned w64 c.args.inside.now.w = search rules in simp to_z-of_z (narrowed c.args.near _ c.requires.near (guarded c.args.inside.now c.args.near c.requires.inside).w_within)

cut_is : (a b : ClipVertex) (near : ℕ) (n p q x y w s : ℤ) → n ≡ pos near → p ≡ a.w -ℤ n → q ≡ n -ℤ b.w →
    x ≡ (p *ℤ b.x) +ℤ (q *ℤ a.x) → y ≡ (p *ℤ b.y) +ℤ (q *ℤ a.y) → w ≡ (p *ℤ b.w) +ℤ (q *ℤ a.w) → s ≡ a.w -ℤ b.w →
    let r : HomPoint = record { x = x; y = y; w = w; scale = s } in r ≡ cut_point a b near
cut_is a b near n p q x y w s en ep eq ex ey ew es = rw (ex, ey, ew, es, ep, eq, en) refl

pub returns : goal.returns
returns c =
    let a = c.args.inside.now in let b = c.args.outside.now in
    let ax : FitsSigned w64 a.x = search rules in let ay : FitsSigned w64 a.y = search rules in let aw : FitsSigned w64 a.w = search rules in
    let bx : FitsSigned w64 b.x = search rules in let by : FitsSigned w64 b.y = search rules in let bw : FitsSigned w64 b.w = search rules in
    let fp : FitsSigned w64 c.narrow_difference-p.result = search rules in let fq : FitsSigned w64 c.narrow_difference-q.result = search rules in
    let fx : FitsSigned w64 c.weighted_sum.result = search rules in let fy : FitsSigned w64 c.weighted_sum-2.result = search rules in
    let fw : FitsSigned w64 c.weighted_sum-3.result = search rules in let fs : FitsSigned w64 c.narrow_difference.result = search rules in
    let fd : FitsSigned w64 c.from-distance.result = search rules in
    let near : c.from-distance.result ≡ pos c.args.near = omega (arith, ints, c.from-distance.ensures) in
    simp to_z-of_z (cut_is a b c.args.near c.from-distance.result c.narrow_difference-p.result c.narrow_difference-q.result c.weighted_sum.result c.weighted_sum-2.result c.weighted_sum-3.result c.narrow_difference.result
    near (simp to_z-of_z at c.narrow_difference-p.ensures.value) (simp to_z-of_z at c.narrow_difference-q.ensures.value)
    (simp to_z-of_z at c.weighted_sum.ensures) (simp to_z-of_z at c.weighted_sum-2.ensures) (simp to_z-of_z at c.weighted_sum-3.ensures) (simp to_z-of_z at c.narrow_difference.ensures.value))
