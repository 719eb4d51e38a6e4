-- What is known of samples that were asked, part by part.
use Rattle.std.proofs.Common.{◌≡◌, ℕ, ◌⊎◌, Bool, ap, sym, ◌∙◌, inl, inr}
use Rattle.cull_base.specs.declared.place.Sub.{Sub}
use Rattle.cull_base.specs.Piece.{Piece}
use Rattle.cull_base.specs.Depth.{high_of}
use Rattle.cull_base.specs.State.{State, hides}
use Rattle.cull_base.specs.Pixels.{sub_of_pixel, sample_of_pixel}
use Rattle.mesh_query.specs.Asked.{Asked, SomeShows, hides_piece}

-- the same state at a pixel gives the same answer there
alike : (f g : Sub → State) (t : Piece) (px py : ℕ) → f (sub_of_pixel px py) ≡ g (sub_of_pixel px py) → hides_piece f t px py ≡ hides_piece g t px py
alike f g t px py e = ap (λ (s : State). hides s (sample_of_pixel px py) (high_of t (sub_of_pixel px py))) e

-- no samples
pub asked_none : (f : Sub → State) (samples : Piece → ℕ → ℕ → Type 0) (known : Bool) → ((t : Piece) (px py : ℕ) → samples t px py → ⊥) → Asked f samples known known
asked_none f samples known nothing = record {
  hidden = λ t px py on. absurd (nothing t px py on);
  some = λ e. inl e;
  none = λ e. (e, nothing);
}

-- some samples, and then some others
pub asked_more : (f : Sub → State) (first second both : Piece → ℕ → ℕ → Type 0) (a b c : Bool) → Asked f first a b → Asked f second b c → ((t : Piece) (px py : ℕ) → both t px py → first t px py ⊎ second t px py)
    → ((t : Piece) (px py : ℕ) → first t px py → both t px py) → ((t : Piece) (px py : ℕ) → second t px py → both t px py) → Asked f both a c
asked_more f first second both a b c h k split from_first from_second = record {
  hidden = λ t px py on. elim (split t px py on) [ inl x ↦ h.hidden t px py x | inr y ↦ k.hidden t px py y ];
  some = λ e. elim (k.some e) [
    | inl known ↦ elim (h.some known) [ inl before ↦ inl before | inr found ↦ let (t, px, py, on) = found in inr (t, px, py, from_first t px py on) ]
    | inr found ↦ let (t, px, py, on) = found in inr (t, px, py, from_second t px py on)
  ];
  none = λ e.
      let rest = k.none e in let before = h.none rest.0 in
      (before.0, λ t px py on. elim (split t px py on) [ inl x ↦ before.1 t px py x | inr y ↦ rest.1 t px py y ]);
}

-- the same samples, whose states are told in another way
pub asked_same : (f g : Sub → State) (samples others : Piece → ℕ → ℕ → Type 0) (a b : Bool) → Asked f samples a b → ((t : Piece) (px py : ℕ) → others t px py → samples t px py)
    → ((t : Piece) (px py : ℕ) → samples t px py → others t px py) → ((t : Piece) (px py : ℕ) → samples t px py → f (sub_of_pixel px py) ≡ g (sub_of_pixel px py)) → Asked g others a b
asked_same f g samples others a b h to from same = record {
  hidden = λ t px py on. let is = to t px py on in sym (alike f g t px py (same t px py is)) ∙ h.hidden t px py is;
  some = λ e. elim (h.some e) [ inl before ↦ inl before | inr found ↦ let (t, px, py, on) = found in inr (t, px, py, from t px py on) ];
  none = λ e. let rest = h.none e in (rest.0, λ t px py on. rest.1 t px py (to t px py on));
}

-- one that shows among some samples shows among more
pub shows_more : (f g : Sub → State) (samples more : Piece → ℕ → ℕ → Type 0) → SomeShows f samples → ((t : Piece) (px py : ℕ) → samples t px py → more t px py)
    → ((t : Piece) (px py : ℕ) → samples t px py → f (sub_of_pixel px py) ≡ g (sub_of_pixel px py)) → SomeShows g more
shows_more f g samples more (t, px, py, on, shows) from same = (t, px, py, from t px py on, sym (alike f g t px py (same t px py on)) ∙ shows)
