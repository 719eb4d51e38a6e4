-- A merge of a piece's low bound at its covered samples keeps what is sound.
use Rattle.std.proofs.Common.{◌≡◌, ℕ, [], ◌∷◌, ◌++◌, length, ap, ◌∙◌, sym, subst}
use Rattle.cull_base.specs.Depth.{low_of}
use Rattle.cull_base.specs.State.{State, samples_of, step_with}
use Rattle.cull_base.specs.Fold.{IsSound, step}
use Rattle.cull_base.proofs.Bits.{length-samples_of}
use Rattle.masked_update.specs.SubTile.{seen, Layers, KeepsSound}
use Rattle.masked_update.proofs.Steps.{layered_of}
use Rattle.masked_update.proofs.Best.{pieces_more, sound_is_reached, step_is_reached, reached_is_sound}

whole : (a b m : ℕ) (s : State) → seen a b m ≡ s → length s.samples ≡ 32
whole a b m s is = sym (ap (λ (t : State). length t.samples) is) ∙ length-samples_of m

pub merge_sound : (a b m : ℕ) (old new : State) (t c : ℕ) → seen a b m ≡ old → Layers a b m → new ≡ step_with old t (samples_of c) → KeepsSound t (samples_of c) old new
merge_sound a b m old new t c is l now u pieces x all piece et ec sound =
    let e : new ≡ step u old x = now ∙ ap (λ v. step_with old v (samples_of c)) et ∙ ap (step_with old (low_of x u)) ec in
    let more = pieces_more pieces x all piece in
    let reached = sound_is_reached u pieces old (whole a b m old is) (layered_of a b m old is l) sound in
    subst (IsSound u (pieces ++ x ∷ [])) (sym e) (reached_is_sound u (pieces ++ x ∷ []) (step u old x) more (step_is_reached u pieces old x more piece reached))
