-- Verdicts on parts, together, and what is known of each part by them.
use Rattle.std.proofs.Common.{◌≡◌, ℕ, suc, Bool, true, false, cond, List, [], ◌∷◌, ◌++◌, arith, refl, ap, sym, ◌∙◌}
use Rattle.std.specs.List.{All, AllZip, Contains, fold}
use Rattle.std.proofs.lemmas.List.Elements.{All-cons, All-head, All-nil, All-tail}
use Rattle.std.proofs.lemmas.List.Sums.{fold_push}
use Rattle.cull_base.specs.declared.scene_types.Verdict.{Verdict}
use Rattle.cull_base.specs.declared.scene_types.Verdict.TheVariants.{Visible, Occluded, Outside}
use Rattle.cull_base.specs.Screen.{Dimensions}
use Rattle.cull_base.specs.Shape.{Shape, AlwaysOutside, AlwaysVisible, Flat, Pieces, is_hidden}
use Rattle.masked_update.specs.TileOf.{TileOf, tile_at}
use Rattle.masked_update.specs.Views.{state_in}
use Rattle.exact_clip.specs.Clip.{Clip}
use Rattle.box_rays.specs.Objects.{IsBeside}
use Rattle.maskcull_c.specs.Asked.{verdict_over}
use Rattle.maskcull_c.specs.Floats.{MayStandFor, all_joined, joined, screen_of}
use Rattle.maskcull_c.specs.Tiles.{Hides, code_of}
use Rattle.maskcull_c.specs.declared.given.Setup.{Setup}
use Rattle.maskcull_c.specs.declared.status.TheConstants.{OCCLUDED}
use Rattle.maskcull_c.specs.declared.view.View.{View}
use Rattle.maskcull_c.proofs.Hiding.{hides_by_verdict}

-- one part that is visible
with_visible : (a : Verdict) → joined a Visible ≡ Visible
with_visible Visible = refl
with_visible Occluded = refl
with_visible Outside = refl

pub visible_stays : (vs : List Verdict) → fold joined Visible vs ≡ Visible
visible_stays [] = refl
visible_stays (v ∷ vs) = visible_stays vs

none_visible : (a : Verdict) (vs : List Verdict) → (fold joined a vs ≡ Visible → ⊥) → (a ≡ Visible → ⊥) × All (λ v. v ≡ Visible → ⊥) vs
none_visible a [] h = (h, All-nil (λ v. v ≡ Visible → ⊥))
none_visible a (v ∷ vs) h =
    let rest = none_visible (joined a v) vs h in (
      λ e. rest.0 (ap (λ b. joined b v) e),
      All-cons (λ v. v ≡ Visible → ⊥) v vs (λ e. rest.0 (ap (joined a) e ∙ with_visible a)) rest.1,
    )

-- what isn't visible together has no visible part
pub parts_not_visible : (vs : List Verdict) → (all_joined vs ≡ Visible → ⊥) → All (λ v. v ≡ Visible → ⊥) vs
parts_not_visible vs h = (none_visible Outside vs h).1

both_outside : (a b : Verdict) → joined a b ≡ Outside → (a ≡ Outside) × (b ≡ Outside)
both_outside Visible b e = absurd cc
both_outside Occluded Visible e = absurd cc
both_outside Occluded Occluded e = absurd cc
both_outside Occluded Outside e = absurd cc
both_outside Outside b e = (refl, e)

each_outside : (a : Verdict) (vs : List Verdict) → fold joined a vs ≡ Outside → (a ≡ Outside) × All (λ v. v ≡ Outside) vs
each_outside a [] e = (e, All-nil (λ v. v ≡ Outside))
each_outside a (v ∷ vs) e =
    let rest = each_outside (joined a v) vs e in
    let both = both_outside a v rest.0 in
    (both.0, All-cons (λ v. v ≡ Outside) v vs both.1 rest.1)

-- what is outside together has all parts outside
pub parts_outside : (vs : List Verdict) → all_joined vs ≡ Outside → All (λ v. v ≡ Outside) vs
parts_outside vs e = (each_outside Outside vs e).1

-- one part more
pub joined_more : (vs : List Verdict) (v : Verdict) → all_joined (vs ++ v ∷ []) ≡ joined (all_joined vs) v
joined_more vs v = fold_push joined Outside vs v

pub occluded_or_visible : (b : Bool) → (cond b Occluded Visible ≡ Visible → ⊥) → cond b Occluded Visible ≡ Occluded
occluded_or_visible true h = refl
occluded_or_visible false h = absurd (h refl)

never_outside : (b : Bool) → cond b Occluded Visible ≡ Outside → ⊥
never_outside true e = cc
never_outside false e = cc

-- a shape of an object that is outside
pub outside_is_beside : (s : Setup) (v : View) (size : Dimensions) (tiles : List TileOf) (points : List Clip) (shape : Shape) → MayStandFor s v points shape → verdict_over size tiles shape ≡ Outside → IsBeside (screen_of v) points
outside_is_beside s v size tiles points AlwaysOutside stands e = stands
outside_is_beside s v size tiles points AlwaysVisible stands e = absurd cc
outside_is_beside s v size tiles points (Flat r q) stands e = absurd (never_outside (is_hidden size (state_in size (tile_at tiles)) (Flat r q)) e)
outside_is_beside s v size tiles points (Pieces ps hull) stands e = absurd stands

-- A shape of a part: where all together is occluded it hides what it has.
pub part_hides : (s : Setup) (v : View) (size : Dimensions) (tiles : List TileOf) (points : List Clip) (shape : Shape) (code : ℕ) → MayStandFor s v points shape
    → (code ≡ OCCLUDED → verdict_over size tiles shape ≡ Visible → ⊥) → Hides size tiles shape code
part_hides s v size tiles points AlwaysOutside code stands shown lists px py sound occluded x y has = absurd cc
part_hides s v size tiles points AlwaysVisible code stands shown lists px py sound occluded x y has = absurd (shown occluded refl)
part_hides s v size tiles points (Flat r q) code stands shown lists px py sound occluded x y has =
    let is = occluded_or_visible (is_hidden size (state_in size (tile_at tiles)) (Flat r q)) (shown occluded) in
    hides_by_verdict size tiles (Flat r q) Occluded OCCLUDED tt (sym is) refl lists px py sound refl x y has
part_hides s v size tiles points (Pieces ps hull) code stands shown lists px py sound occluded x y has = absurd stands

pub shape_hides : (s : Setup) (v : View) (size : Dimensions) (tiles : List TileOf) (points : List Clip) (shape : Shape) (code : ℕ) → MayStandFor s v points shape
    → code ≡ code_of (verdict_over size tiles shape) → Hides size tiles shape code
shape_hides s v size tiles points AlwaysOutside code stands is = hides_by_verdict size tiles AlwaysOutside Outside code tt refl is
shape_hides s v size tiles points AlwaysVisible code stands is = hides_by_verdict size tiles AlwaysVisible Visible code tt refl is
shape_hides s v size tiles points (Flat r q) code stands is = hides_by_verdict size tiles (Flat r q) (verdict_over size tiles (Flat r q)) code tt refl is
shape_hides s v size tiles points (Pieces ps hull) code stands is = absurd stands

-- what holds of each part's shape
pub all_shapes : {T : Type 0} (R : T → Shape → Type 0) (P : Shape → Type 0) (ts : List T) (shapes : List Shape) → AllZip R ts shapes → ((t : T) (shape : Shape) → Contains shapes shape → R t shape → P shape) → All P shapes
all_shapes R P [] [] z h = All-nil P
all_shapes R P [] (x ∷ xs) z h = absurd z
all_shapes R P (t ∷ ts) [] z h = absurd z
all_shapes R P (t ∷ ts) (x ∷ xs) z h =
    All-cons P x xs (h t x (0, omega arith, refl) z.0) (all_shapes R P ts xs z.1 (λ u y m r. h u y (let (k, lt, is) = m in (suc k, omega (arith, lt), is)) r))

-- and what follows of each part
pub all_parts : {T : Type 0} (R : T → Shape → Type 0) (P : Shape → Type 0) (Q : T → Type 0) (ts : List T) (shapes : List Shape) → AllZip R ts shapes → All P shapes → ((t : T) (shape : Shape) → R t shape → P shape → Q t) → All Q ts
all_parts R P Q [] [] z all h = All-nil Q
all_parts R P Q [] (x ∷ xs) z all h = absurd z
all_parts R P Q (t ∷ ts) [] z all h = absurd z
all_parts R P Q (t ∷ ts) (x ∷ xs) z all h =
    All-cons Q t ts (h t x z.0 (All-head P x xs all)) (all_parts R P Q ts xs z.1 (All-tail P x xs all) h)
