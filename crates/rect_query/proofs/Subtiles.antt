-- The samples of an area in a subtile.
use Rattle.std.proofs.Common.{◌≡◌, ℕ, ◌+◌, ◌*◌, ◌/◌, ◌%◌, ◌<◌, true, sym, ◌∙◌, IsTrue}
use Rattle.cull_base.specs.State.{State, has, hides, samples_of}
use Rattle.cull_base.specs.Pixels.{sample_of_pixel}
use Rattle.cull_base.proofs.Pixels.{sample_below, column_of_sample, row_of_sample, sample_of_sample}
use Rattle.rect_query.specs.declared.area.Area.{Area}
use Rattle.rect_query.specs.Area.{SubHides, is_sample_in}
use Rattle.rect_query.proofs.Pixels.{pixel_is_in, pixel_of_sample}

pub mask_to : (a : Area) (s : State) (column row samples q : ℕ) → ((k : ℕ) → k < 32 → has (samples_of samples) k ≡ is_sample_in a column row k)
    → ((k : ℕ) → k < 32 → has (samples_of samples) k ≡ true → IsTrue (hides s k q)) → SubHides s column row a q
mask_to a s column row samples q mask h px py inside c r =
    let lt = sample_below px py in
    h (sample_of_pixel px py) lt (mask (sample_of_pixel px py) lt ∙ pixel_is_in a px py column row inside c r)

pub mask_from : (a : Area) (s : State) (column row samples q : ℕ) → ((k : ℕ) → k < 32 → has (samples_of samples) k ≡ is_sample_in a column row k)
    → SubHides s column row a q → (k : ℕ) → k < 32 → has (samples_of samples) k ≡ true → IsTrue (hides s k q)
mask_from a s column row samples q mask h k lt has =
    let inside = pixel_of_sample a column row k lt (sym (mask k lt) ∙ has) in
    let here = h (8 * column + k % 8) (4 * row + k / 8) inside (column_of_sample column k) (row_of_sample row k lt) in
    rw (sample_of_sample column row k lt) at here
