-- Lines that fit those before them.
use Rattle.std.specs.Prelude.{ℕ, ◌≡◌, ◌+◌, ◌*◌, ◌<◌, ◌≤◌, ◌⊎◌, List, [], ◌∷◌, ◌++◌, length, Option}
use Rattle.std.specs.List.{flat_map, range_with_len}
use Rattle.std.proofs.Props.{props}
use Rattle.cull_base.specs.Screen.{tile_count_of}
use Rattle.cull_base.specs.Stream.{IsAtEnd}
use Rattle.cull_base.specs.Tiles.{PieceList, tile_list}
use Rattle.cull_base.specs.declared.clip.ClipVertex.{ClipVertex}
use Rattle.cull_base.specs.declared.scene_types.Object.{Object}
use Rattle.cull_base.specs.declared.scene_types.Object.TheVariants.{Area, Block, Mesh}
use Rattle.scene_reader.specs.Layout.{Parts, IsObject, IsScene}
use Rattle.cull_report.specs.Live.{Counts, IsBefore, IsLine, IsRising, IsRisingIn, IsStated, frame_live, frames_live, live_text, object_line, round_lines, watched}
use Rattle.cull_report.specs.Scene.{frame_clips, frame_list, size_of}
use Rattle.live_check.specs.declared.answer.LogAnswer.{LogAnswer}
use Rattle.live_check.specs.declared.answer.LogAnswer.TheVariants.{Accepted, Refused}
use Rattle.live_check.specs.Waiting.{Came, NeverComes}

-- The lines before line (round, object) of a frame: each of their counts is at most the length of its tile's list, and from each line to each later one no tile's
-- count falls.
pub record IsRisingTo (s : Parts) (watch frame : ℕ) (counts : ℕ → ℕ → ℕ → ℕ) (round object : ℕ) : Type 0 where
  pub within : (r o t : ℕ) → o < watched s watch → IsBefore r o round object → IsStated s frame o t → counts r o t ≤ length (tile_list t (frame_list s frame))
  pub rises : (r o p q t : ℕ) → o < watched s watch → q < watched s watch → IsBefore p q round object → IsBefore r o p q → IsStated s frame o t → IsStated s frame q t → counts r o t ≤ counts p q t

-- a line's counts fit the lines before it: none is below an earlier one of its tile, or past the tile's list
pub record IsNext (s : Parts) (watch frame : ℕ) (counts : ℕ → ℕ → ℕ → ℕ) (round object : ℕ) (k : ℕ → ℕ) : Type 0 where
  pub within : (t : ℕ) → IsStated s frame object t → k t ≤ length (tile_list t (frame_list s frame))
  pub rises : (r o t : ℕ) → o < watched s watch → IsBefore r o round object → IsStated s frame o t → IsStated s frame object t → counts r o t ≤ k t

-- a line's counts, where each tile has some already
pub record FitsAt (s : Parts) (frame object : ℕ) (at k : ℕ → ℕ) : Type 0 where
  pub within : (t : ℕ) → IsStated s frame object t → k t ≤ length (tile_list t (frame_list s frame))
  pub rises : (t : ℕ) → IsStated s frame object t → at t ≤ k t

-- a frame of a scene, with its clip vertices and its list
pub record IsLaidOut (s : Parts) (frame : ℕ) (clips : List ClipVertex) (list : PieceList) : Type 0 where
  pub scene : IsScene s
  pub is_frame : frame < length s.cameras
  pub clips_are : clips ≡ frame_clips s frame
  pub list_is : list ≡ frame_list s frame

-- what is said of an object has one proof at most
pub object_prop : (object_tris : ℕ) (object : Object) → IsProp (IsObject object_tris object)
object_prop object_tris (Area rect w) = hlevel props
object_prop object_tris (Block low high) = hlevel props
object_prop object_tris (Mesh first count) = hlevel props

-- An object's line came, whose counts fit those that the tiles had. They are the tiles' then; a tile that it doesn't state has as many as before.
pub record LineComes (s : Parts) (frame round object : ℕ) (at now : ℕ → ℕ) (before after : Option (List ℕ)) : Type 0 where
  pub fits : FitsAt s frame object at now
  pub others : (t : ℕ) → t < tile_count_of (size_of s) → (IsStated s frame object t → ⊥) → now t ≡ at t
  pub came : Came before after (object_line s frame round object now)

-- the counts of each tile are those of the last line before line (round, object) that states it, or 0
pub record AreLast (s : Parts) (watch frame : ℕ) (counts : ℕ → ℕ → ℕ → ℕ) (round object : ℕ) (at : ℕ → ℕ) : Type 0 where
  pub below : (r o t : ℕ) → o < watched s watch → IsBefore r o round object → IsStated s frame o t → counts r o t ≤ at t
  pub from : (t : ℕ) → t < tile_count_of (size_of s)
      → (at t ≡ 0) ⊎ ((r : ℕ) × (o : ℕ) × (o < watched s watch) × IsBefore r o round object × IsStated s frame o t × (counts r o t ≡ at t))

-- the lines of a frame before line (round, object)
abbrev pub lines_to : Parts → ℕ → ℕ → (ℕ → ℕ → ℕ → ℕ) → ℕ → ℕ → List ℕ
lines_to s watch frame counts round object =
    frame_live s round watch counts frame ++ flat_map (λ o. object_line s frame round o (counts round o)) (range_with_len 0 object)

-- ---- a round, behind lines of these counts

-- counts that are these before a round
abbrev pub AreBefore : (ℕ → ℕ → ℕ → ℕ) → (ℕ → ℕ → ℕ → ℕ) → ℕ → Type 0
AreBefore counts more round = (r o t : ℕ) → r < round → more r o t ≡ counts r o t

-- the lines of a round came, of counts that go on rising
pub record RoundComes (s : Parts) (watch frame : ℕ) (counts : ℕ → ℕ → ℕ → ℕ) (round : ℕ) (at : ℕ → ℕ) (before after : Option (List ℕ)) : Type 0 where
  pub more : ℕ → ℕ → ℕ → ℕ
  pub same : AreBefore counts more round
  pub rising : IsRisingTo s watch frame more (round + 1) 0
  pub last : AreLast s watch frame more (round + 1) 0 at
  pub came : Came before after (round_lines s frame watch (more round) round)

-- the lines of its first n objects came, and that of the next one doesn't, whatever counts it might state that fit
pub record RoundStops (s : Parts) (watch frame : ℕ) (counts : ℕ → ℕ → ℕ → ℕ) (round : ℕ) (before : Option (List ℕ)) (n : ℕ) : Type 0 where
  pub more : ℕ → ℕ → ℕ → ℕ
  pub same : AreBefore counts more round
  pub rising : IsRisingTo s watch frame more round n
  pub is_object : n < watched s watch
  pub left : Option (List ℕ)
  pub came : Came before left (flat_map (λ o. object_line s frame round o (more round o)) (range_with_len 0 n))
  pub stops : (k : ℕ → ℕ) → IsNext s watch frame more round n k → NeverComes left (object_line s frame round n k)

-- ---- a frame

-- a frame whose lines are all there, of counts that rise
pub record FrameComes (s : Parts) (rounds watch frame : ℕ) (before after : Option (List ℕ)) : Type 0 where
  pub counts : ℕ → ℕ → ℕ → ℕ
  pub rising : IsRisingIn s rounds watch frame counts
  pub came : Came before after (frame_live s rounds watch counts frame)

-- a frame whose first n lines are there, of counts that rise, and whose next one isn't, whatever counts it might state that fit
pub record FrameStops (s : Parts) (rounds watch frame : ℕ) (before : Option (List ℕ)) (n : ℕ) : Type 0 where
  pub counts : ℕ → ℕ → ℕ → ℕ
  pub round : ℕ
  pub object : ℕ
  pub is_line : IsLine s rounds watch round object
  pub place : n ≡ round * watched s watch + object
  pub rising : IsRisingTo s watch frame counts round object
  pub left : Option (List ℕ)
  pub came : Came before left (lines_to s watch frame counts round object)
  pub stops : (k : ℕ → ℕ) → IsNext s watch frame counts round object k → NeverComes left (object_line s frame round object k)

-- ---- a log

-- a whole log came, of counts that rise
pub record LogComes (s : Parts) (rounds watch : ℕ) (before after : Option (List ℕ)) : Type 0 where
  pub counts : Counts
  pub rising : IsRising s rounds watch counts
  pub came : Came before after (live_text s rounds watch counts)

-- the first n lines of a log came, and the next one doesn't: it is of a frame before which all lines came
pub record LogStops (s : Parts) (rounds watch : ℕ) (before : Option (List ℕ)) (n : ℕ) : Type 0 where
  pub counts : Counts
  pub frame : ℕ
  pub is_frame : frame < length s.cameras
  pub rising : (f : ℕ) → f < frame → IsRisingIn s rounds watch f (counts f)
  pub middle : Option (List ℕ)
  pub came : Came before middle (frames_live s rounds watch counts frame)
  pub good : ℕ
  pub place : n ≡ (rounds * watched s watch) * frame + good
  pub stops : FrameStops s rounds watch frame middle good

-- nothing waits and the log is at its end, or something follows behind so many lines
abbrev pub AnswersEnd : ℕ → List ℕ → Option (List ℕ) → LogAnswer → Type 0
AnswersEnd lines held left Accepted = (held ≡ []) × IsAtEnd left
AnswersEnd lines held left (Refused n) = (n ≡ lines) × ((b : ℕ) × (rest : List ℕ) × (held ≡ b ∷ rest))
