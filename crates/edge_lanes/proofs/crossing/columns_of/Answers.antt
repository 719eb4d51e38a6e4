use Rattle.std.proofs.Common.{◌≡◌, ℕ, ℤ, pos, ◌^◌, ◌∷◌, [], slice_index, slice_index_or, to_z, of_z, FitsSigned, w64, rules}
use Rattle.std.specs.Int.{int_div_euclid}
use Rattle.std.proofs.lemmas.Int.{to_z-of_z}
use Rattle.cull_base.proofs.EightLanes.{each_of_eight}
use Rattle.edge_lanes.specs.Between.{held_column}
use Rattle.edge_lanes.proofs.crossing.columns_of.Goals as goal

-- the column of parts that fit 64 bits
column : (n : ℕ) (parts : ℤ) → FitsSigned w64 parts → pos n ≡ held_column (int_div_euclid (to_z w64 (of_z w64 parts)) (pos (2 ^ 32))) → pos n ≡ held_column (int_div_euclid parts (pos (2 ^ 32)))
column n parts fits is = simp to_z-of_z at is

pub returns : goal.returns
returns c =
    let at : (r : ℕ) → ℤ = λ r. slice_index_or c.args.parts r (pos 0) in
    each_of_eight (λ r. pos (slice_index (c.column_of.result ∷ c.column_of-2.result ∷ c.column_of-3.result ∷ c.column_of-4.result ∷ c.column_of-5.result ∷ c.column_of-6.result ∷ c.column_of-7.result ∷ c.column_of-8.result ∷ []) r) ≡ held_column (int_div_euclid (slice_index_or c.args.parts r (pos 0)) (pos (2 ^ 32))))
    (column _ (at 0) (search rules) c.column_of.ensures) (column _ (at 1) (search rules) c.column_of-2.ensures) (column _ (at 2) (search rules) c.column_of-3.ensures) (column _ (at 3) (search rules) c.column_of-4.ensures)
    (column _ (at 4) (search rules) c.column_of-5.ensures) (column _ (at 5) (search rules) c.column_of-6.ensures) (column _ (at 6) (search rules) c.column_of-7.ensures) (column _ (at 7) (search rules) c.column_of-8.ensures)
