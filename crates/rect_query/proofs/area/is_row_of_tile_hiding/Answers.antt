use Rattle.std.proofs.Common.{◌≡◌, ℕ, ◌+◌, ◌*◌, ◌/◌, ◌%◌, ◌<◌, ◌≤◌, min, max, arith}
use Rattle.rect_query.proofs.area.is_row_of_tile_hiding.Goals as goal

column_is : (px c column first end x0 e : ℕ) → first ≡ max (column * 4) x0 → end ≡ min (column * 4 + 4) e → first ≤ c → c < end → px / 8 ≡ c → px / 32 ≡ column
column_is px c column first end x0 e f g le lt is = omega arith

index_is : (px py c r : ℕ) → px / 8 ≡ c → py / 4 ≡ r → r % 2 * 4 + c % 4 ≡ 4 * (py / 4 % 2) + px / 8 % 4
index_is px py c r e f = rw (← e, ← f) (omega arith)

pub returns-then-not-is_subtile_hiding : goal.returns-then-not-is_subtile_hiding
returns-then-not-is_subtile_hiding c = (
  (λ t. absurd cc),
  (λ all.
      let yes = c.is_subtile_hiding.ensures.1 (λ px py inside column row.
      let at = column_is px c.loop-c.c c.args.column c.max-first.result c.min-end.result _ _ c.max-first.ensures c.min-end.ensures c.loop-c.auto.c c.loop-c-test.true column in
      let here = all px py inside at row in
      rw (c.sub-sub.ensures.value, index_is px py c.loop-c.c c.args.row column row) here) in
      rw c.if-not-is_subtile_hiding.true at yes),
)
