use Rattle.std.proofs.Common.{◌≡◌, ◌∙◌, ℤ, pos, ap, FitsSigned, w32, rules, slice_index_or}
use Rattle.std.specs.Int.{int_min, int_max}
use Rattle.std.proofs.lemmas.Int.{to_z-of_z}
use Rattle.cull_base.specs.declared.extent.Extent.{Extent}
use Rattle.cull_base.proofs.Extents.{least_of_three, greatest_of_three}
use Rattle.cull_base.proofs.extent.Extent.of_three.Goals as goal

joined : (f : ℤ → ℤ → ℤ) (z y x a b c : ℤ) → z ≡ f y c → y ≡ f x b → x ≡ a → z ≡ f (f a b) c
joined f z y x a b c e g h = e ∙ ap (λ t. f t c) (g ∙ ap (λ t. f t b) h)

pub returns : goal.returns
returns c =
    let vs = c.args.values.now in
    let f0 : FitsSigned w32 (slice_index_or vs 0 (pos 0)) = search rules in let f1 : FitsSigned w32 (slice_index_or vs 1 (pos 0)) = search rules in let f2 : FitsSigned w32 (slice_index_or vs 2 (pos 0)) = search rules in
    record {
      least = joined int_min c.with-2.result.least c.with.result.least c.of.result.least _ _ _ (simp to_z-of_z at c.with-2.ensures.least) (simp to_z-of_z at c.with.ensures.least) (simp to_z-of_z at (ap (λ (e : Extent). e.least) c.of.ensures))
          ∙ least_of_three vs c.told-values;
      greatest = joined int_max c.with-2.result.greatest c.with.result.greatest c.of.result.greatest _ _ _ (simp to_z-of_z at c.with-2.ensures.greatest) (simp to_z-of_z at c.with.ensures.greatest) (simp to_z-of_z at (ap (λ (e : Extent). e.greatest) c.of.ensures))
          ∙ greatest_of_three vs c.told-values;
    }
