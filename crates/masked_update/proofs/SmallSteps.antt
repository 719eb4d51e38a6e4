-- The subtiles of a tile take a piece one after the other.
use Rattle.std.proofs.Common.{◌≡◌, ◌≢◌, ◌∙◌, ◌⊎◌, ◌||◌, Bool, true, false, inl, inr, ℕ, ◌<◌, ◌^◌, List, ap, arith, length, refl, slice_index_or, subst, sym}
use Rattle.std.specs.Int.{bit_at}
use Rattle.std.proofs.lemmas.Bool.{cases_eq, cond-true}
use Rattle.std.proofs.lemmas.Nat.Bits.{bit_at-lt, bit_at-zero}
use Rattle.cull_base.specs.Fold.{step}
use Rattle.cull_base.specs.Piece.{Piece}
use Rattle.cull_base.specs.Screen.{Dimensions}
use Rattle.cull_base.specs.State.{State, empty_state}
use Rattle.cull_base.specs.declared.place.Tile.{Tile}
use Rattle.edge_lanes.specs.Inside.{sub_of}
use Rattle.masked_update.specs.Coverage.{AreWanted}
use Rattle.masked_update.specs.Merged.{merged_at, merged_by}
use Rattle.masked_update.specs.Small.{HaveSameReferences, IsMergedAt}
use Rattle.masked_update.proofs.LowestBit.{IsWithout}
use Rattle.masked_update.proofs.Merging.{eight_of, left_out}

-- the wanted subtiles but those that are left took the piece
pub record AreMergedBut (x : Piece) (place : Tile) (wanted left : ℕ) (old now : List State) : Type 0 where
  pub eight : length now ≡ 8
  pub byte : left < 2 ^ 8
  pub among : (i : ℕ) → i < 8 → bit_at left i ≡ 1 → bit_at wanted i ≡ 1
  pub kept : (i : ℕ) → i < 8 → bit_at left i ≡ 1 → slice_index_or now i empty_state ≡ slice_index_or old i empty_state
  pub done : (i : ℕ) → i < 8 → bit_at left i ≡ 0 → bit_at wanted i ≡ 1 → slice_index_or now i empty_state ≡ step (sub_of place i) (slice_index_or old i empty_state) x
  pub others : (i : ℕ) → i < 8 → bit_at wanted i ≡ 0 → slice_index_or now i empty_state ≡ slice_index_or old i empty_state

pub none_merged : (x : Piece) (place : Tile) (wanted : ℕ) (old : List State) → wanted < 2 ^ 8 → length old ≡ 8 → AreMergedBut x place wanted wanted old old
none_merged x place wanted old byte eight = record {
  eight = eight;
  byte = byte;
  among = λ i lt set. set;
  kept = λ i lt set. refl;
  done = λ i lt clear set. absurd (omega (arith, clear, set));
  others = λ i lt clear. refl;
}

-- one subtile more
pub one_merged : (x : Piece) (place : Tile) (wanted left j rest : ℕ) (old now new : List State) → j < 8 → bit_at left j ≡ 1 → IsWithout left j rest → AreMergedBut x place wanted left old now → IsMergedAt x place j now new
    → AreMergedBut x place wanted rest old new
one_merged x place wanted left j rest old now new lt one without inv merged = record {
  eight = merged.eight;
  byte = let le = without.less in let byte = inv.byte in omega (arith, le, byte);
  among = λ i below set. inv.among i below (was i (apart i set) set);
  kept = λ i below set. merged.others i (apart i set) ∙ inv.kept i below (was i (apart i set) set);
  done = λ i below none set. elim (cases_eq i j) [
    | inl e ↦ subst (λ (n : ℕ). slice_index_or new n empty_state ≡ step (sub_of place n) (slice_index_or old n empty_state) x) (sym e)
        (merged.this ∙ ap (λ (s : State). step (sub_of place j) s x) (inv.kept j lt one))
    | inr ne ↦ merged.others i ne ∙ inv.done i below (sym (without.others i ne) ∙ none) set
  ];
  others = λ i below none. merged.others i (λ e. let set = inv.among j lt one in let same = ap (bit_at wanted) e in absurd (omega (arith, set, same, none))) ∙ inv.others i below none;
}
  where
    apart : (i : ℕ) → bit_at rest i ≡ 1 → i ≢ j
    apart i set e = let same = ap (bit_at rest) e in let clear = without.clear in absurd (omega (arith, same, set, clear))

    was : (i : ℕ) → i ≢ j → bit_at rest i ≡ 1 → bit_at left i ≡ 1
    was i ne set = sym (without.others i ne) ∙ set

-- where none is left, the piece is merged into the tile
pub all_merged : (size : Dimensions) (place : Tile) (x : Piece) (wanted left : ℕ) (old now : List State) → AreWanted size place x old wanted → AreMergedBut x place wanted left old now → left ≡ 0 → now ≡ merged_by size place x old
unfolding merged_by
all_merged size place x wanted left old now wants inv none = eight_of (merged_at size place x old) now inv.eight (λ j h. by j h (cases_eq (bit_at wanted j) 0))
  where
    by : (j : ℕ) → j < 8 → (bit_at wanted j ≡ 0) ⊎ (bit_at wanted j ≡ 0 → ⊥) → slice_index_or now j empty_state ≡ merged_at size place x old j
    by j h (inl clear) = inv.others j h clear ∙ left_out size place x old wanted j h wants clear
    by j h (inr set) =
        let one : bit_at wanted j ≡ 1 = omega (arith, set, bit_at-lt wanted j) in
        inv.done j h (ap (λ n. bit_at n j) none ∙ bit_at-zero j) one ∙ sym (cond-true _ _ _ (wants.on_screen j h one))

-- the references are the same after a step if they are before it, and it changes none
pub references_kept : (raised more : Bool) (old now new : List State) → (raised ≡ false → HaveSameReferences old now) → (more ≡ false → HaveSameReferences now new) → (raised || more) ≡ false → HaveSameReferences old new
references_kept false false old now new before step e j = step refl j ∙ before refl j
references_kept false true old now new before step e j = absurd (cc)
references_kept true more old now new before step e j = absurd (cc)
