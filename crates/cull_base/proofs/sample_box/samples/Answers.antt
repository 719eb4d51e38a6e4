use Rattle.std.proofs.Common.{◌≡◌, ℤ, refl, arith}
use Rattle.cull_base.specs.declared.rect.Rect.{Rect}
use Rattle.cull_base.proofs.SignedLanes.{sample_fits, sample_lane}
use Rattle.cull_base.proofs.sample_box.samples.Goals as goal

abbrev rect : ℤ → ℤ → ℤ → ℤ → Rect
rect a b c d = record { x0 = a; y0 = b; x1 = c; y1 = d }

same : (a b c d x y z w : ℤ) → a ≡ x → b ≡ y → c ≡ z → d ≡ w → rect a b c d ≡ rect x y z w
same a b c d x y z w e f g h = rw (e, f, g, h) refl

pub overflow_add-raised : goal.overflow_add-raised
overflow_add-raised c =
    let r = c.requires in
    (sample_fits c.args.left 7 (omega arith) r.left, (sample_fits c.args.top 7 (omega arith) r.top, (sample_fits c.args.right 8 (omega arith) r.right, (sample_fits c.args.bottom 8 (omega arith) r.bottom, tt))))

pub returns : goal.returns
returns c =
    let r = c.requires in
    same _ _ _ _ _ _ _ _ (sample_lane c.args.left 7 (omega arith) r.left) (sample_lane c.args.top 7 (omega arith) r.top) (sample_lane c.args.right 8 (omega arith) r.right) (sample_lane c.args.bottom 8 (omega arith) r.bottom)
