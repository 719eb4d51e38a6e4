use Rattle.std.proofs.Common.{◌^◌, [], ◌∷◌, slice_index, refl}
use Rattle.std.proofs.lemmas.Bool.{false≢true}
use Rattle.exact_clip.proofs.Reach.{nothing}
use Rattle.exact_clip.proofs.Sums.{holds}
use Rattle.exact_clip.proofs.rows.Rows.box_corners.Goals as goal

pub returns-in_err-b-clause-known : goal.returns-in_err-b-clause-known
returns-in_err-b-clause-known c =
    nothing c.from_residual-in_err-b.result _ c.from_residual-in_err-b.ensures (λ p. false≢true (c.in_err-b.ensures.known.1 (p.1.0, p.1.1.coordinates)))

pub returns-clause-known : goal.returns-clause-known
returns-clause-known c =
    let low = c.in_ok-a.ensures.known.0 refl in let high = c.in_ok-b.ensures.known.0 refl in
    let reach = c.in_ok-last.ensures.value.reach in
    (λ _. ((low.0, record { coordinates = low.1; last = reach }), (high.0, record { coordinates = high.1; last = reach })), λ _. refl)

pub returns-clause-holds : goal.returns-clause-holds
returns-clause-holds c =
    let r = c.args.self.now in let unit = 2 ^ r.exponent in
    let x0 = slice_index c.args.low.now 0 in let y0 = slice_index c.args.low.now 1 in let z0 = slice_index c.args.low.now 2 in
    let x1 = slice_index c.args.high.now 0 in let y1 = slice_index c.args.high.now 1 in let z1 = slice_index c.args.high.now 2 in
    let a = c.in_ok-a.a in let b = c.in_ok-b.b in let last = c.in_ok-last.last in
    let p = c.in_ok-a.ensures.cut in let q = c.in_ok-b.ensures.cut in let cuts = c.in_ok-last.ensures.value.cuts in
    let s0 = holds unit r.matrix (x0 ∷ y0 ∷ z0 ∷ []) a.x a.y a.z last c.sum.result p.x p.y p.z cuts c.sum.ensures in
    let s1 = holds unit r.matrix (x1 ∷ y0 ∷ z0 ∷ []) b.x a.y a.z last c.sum-2.result q.x p.y p.z cuts c.sum-2.ensures in
    let s2 = holds unit r.matrix (x0 ∷ y1 ∷ z0 ∷ []) a.x b.y a.z last c.sum-3.result p.x q.y p.z cuts c.sum-3.ensures in
    let s3 = holds unit r.matrix (x1 ∷ y1 ∷ z0 ∷ []) b.x b.y a.z last c.sum-4.result q.x q.y p.z cuts c.sum-4.ensures in
    let s4 = holds unit r.matrix (x0 ∷ y0 ∷ z1 ∷ []) a.x a.y b.z last c.sum-5.result p.x p.y q.z cuts c.sum-5.ensures in
    let s5 = holds unit r.matrix (x1 ∷ y0 ∷ z1 ∷ []) b.x a.y b.z last c.sum-6.result q.x p.y q.z cuts c.sum-6.ensures in
    let s6 = holds unit r.matrix (x0 ∷ y1 ∷ z1 ∷ []) a.x b.y b.z last c.sum-7.result p.x q.y q.z cuts c.sum-7.ensures in
    let s7 = holds unit r.matrix (x1 ∷ y1 ∷ z1 ∷ []) b.x b.y b.z last c.sum-8.result q.x q.y q.z cuts c.sum-8.ensures in
    (s0, (s1, (s2, (s3, (s4, (s5, (s6, (s7, tt))))))))
