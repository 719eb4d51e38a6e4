-- Bytes whose pieces are read as parts are the layout of these parts.
use Rattle.std.proofs.Common.{◌≡◌, ℕ, ℤ, ◌++◌, List, length, map, refl, sym, ap, ◌∙◌, subst, All, None}
use Rattle.std.specs.List.{flat_map}
use Rattle.std.proofs.lemmas.List.{take_at, drop_at}
use Rattle.std.proofs.lemmas.List.Elements.{All-take, All-drop}
use Rattle.scene_reader.specs.declared.header.Counts.{Counts}
use Rattle.scene_reader.specs.Layout.{Parts, row_bytes, tri_bytes, batch_bytes, object_bytes, raw_object, raw_batch, stored_batches, header_bytes, layout}
use Rattle.scene_reader.specs.Length.{header_length}
use Rattle.scene_reader.specs.Fault.{row_of, tri_of, raw_of, raw_batch_of, header_fault}
use Rattle.scene_reader.specs.Reading.{IsTable}
use Rattle.cull_base.proofs.Takes.{IsByte}
use Rattle.scene_reader.proofs.Codes.{row_back, tri_back}
use Rattle.scene_reader.proofs.Headers.{header_accepted}
use Rattle.scene_reader.proofs.Pieces.{table_back, raw_batch_bytes, batches_raw, raw_batch_back, raw_bytes, objects_raw, raw_back}
use Rattle.scene_reader.proofs.HeaderBytes.{HeaderSays, header_back}
use Rattle.scene_reader.proofs.SevenPieces.{Sized, seven_pieces}

-- bytes whose pieces are read as these parts are their layout
pub joined_layout : (n : Counts) (h v o b t j c : List ℕ) (p : Parts) (bs : List (ℕ × ℕ)) (raws : List (ℕ × List ℤ)) → Sized n h v o b t j c → All IsByte (seven_pieces h v o b t j c) → header_fault h ≡ None → HeaderSays h p
    → IsTable 12 n.vertices (row_of 3) v p.vertices → IsTable 12 n.occluders tri_of o p.occluders → IsTable 5 n.batches raw_batch_of b bs → IsTable 12 n.object_tris tri_of t p.object_tris → IsTable 25 n.objects raw_of j raws → IsTable 48 n.frames (row_of 12) c p.cameras
    → map raw_batch (stored_batches p.version p.batches) ≡ bs → map raw_object p.objects ≡ raws → seven_pieces h v o b t j c ≡ layout p
unfolding layout
joined_layout n h v o b t j c p bs raws s fits fine says tv to tb tt tj tc batches objects =
    let f1 = split h _ fits in
    let f2 = split v _ f1.1 in
    let f3 = split o _ f2.1 in
    let f4 = split b _ f3.1 in
    let f5 = split t _ f4.1 in
    let f6 = split j c f5.1 in
    let stored = stored_batches p.version p.batches in
    let eh = header_back p h (s.header ∙ ap header_length says.version) f1.0 (header_accepted h fine) says in
    let ev = sym (table_back 12 n.vertices row_bytes (row_of 3) v p.vertices (λ e l k. row_back 3 e l k) tv f2.0) in
    let eo = sym (table_back 12 n.occluders tri_bytes tri_of o p.occluders (λ e l k. tri_back e l k) to f3.0) in
    let eb : b ≡ flat_map batch_bytes stored = sym (batches_raw stored ∙ ap (flat_map raw_batch_bytes) batches ∙ table_back 5 n.batches raw_batch_bytes raw_batch_of b bs (λ e l k. raw_batch_back e l k) tb f4.0) in
    let et = sym (table_back 12 n.object_tris tri_bytes tri_of t p.object_tris (λ e l k. tri_back e l k) tt f5.0) in
    let ej : j ≡ flat_map object_bytes p.objects = sym (objects_raw p.objects ∙ ap (flat_map raw_bytes) objects ∙ table_back 25 n.objects raw_bytes raw_of j raws (λ e l k. raw_back e l k) tj f6.0) in
    let ec = sym (table_back 48 n.frames row_bytes (row_of 12) c p.cameras (λ e l k. row_back 12 e l k) tc f6.1) in
    ap (λ (x : List ℕ). seven_pieces x v o b t j c) eh
    ∙ ap (λ (x : List ℕ). seven_pieces (header_bytes p) x o b t j c) ev
    ∙ ap (λ (x : List ℕ). seven_pieces (header_bytes p) (flat_map row_bytes p.vertices) x b t j c) eo
    ∙ ap (λ (x : List ℕ). seven_pieces (header_bytes p) (flat_map row_bytes p.vertices) (flat_map tri_bytes p.occluders) x t j c) eb
    ∙ ap (λ (x : List ℕ). seven_pieces (header_bytes p) (flat_map row_bytes p.vertices) (flat_map tri_bytes p.occluders) (flat_map batch_bytes stored) x j c) et
    ∙ ap (λ (x : List ℕ). seven_pieces (header_bytes p) (flat_map row_bytes p.vertices) (flat_map tri_bytes p.occluders) (flat_map batch_bytes stored) (flat_map tri_bytes p.object_tris) x c) ej
    ∙ ap (λ (x : List ℕ). seven_pieces (header_bytes p) (flat_map row_bytes p.vertices) (flat_map tri_bytes p.occluders) (flat_map batch_bytes stored) (flat_map tri_bytes p.object_tris) (flat_map object_bytes p.objects) x) ec
  where
    split : (xs ys : List ℕ) → All IsByte (xs ++ ys) → All IsByte xs × All IsByte ys
    split xs ys fits =
        (subst (All IsByte) (take_at xs ys (length xs) refl) (All-take IsByte (length xs) (xs ++ ys) fits), subst (All IsByte) (drop_at xs ys (length xs) refl) (All-drop IsByte (length xs) (xs ++ ys) fits))
