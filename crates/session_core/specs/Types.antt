-- The rows of payload types that streams use, as a session makes them of its codecs.
use Rattle.std.specs.Prelude.{ℕ, is_some, nat_eq, if◌then◌else◌, List, [], ◌∷◌, Option, Some, None}
use Rattle.indexmap.specs.IndexMap.{insert_entry}
use Rattle.payload_core.specs.declared.params.PayloadParams.{PayloadParams}
use Rattle.stream_core.specs.declared.payload_types.TypeRow.{TypeRow}
use Rattle.stream_core.specs.Tables.{place_of}

-- the row of a payload type: its number, its clock, the type of its repairs, and that of its redundant data
abbrev pub row_of : PayloadParams → TypeRow
row_of p = record { pt = p.pt; clock = p.spec.clock_rate; rtx = p.resend; red = p.red }

-- the row of its redundant data: of the same clock, without repairs
abbrev pub red_row_of : PayloadParams → ℕ → TypeRow
red_row_of p red = record { pt = red; clock = p.spec.clock_rate; rtx = None; red = None }

-- a row comes in the place of the one with its number, or behind the others
abbrev pub with_row : TypeRow → List (ℕ × TypeRow) → List (ℕ × TypeRow)
with_row row rows = insert_entry nat_eq rows row.pt row

-- that of redundant data comes where its number has none
abbrev pub with_red_row : PayloadParams → Option ℕ → List (ℕ × TypeRow) → List (ℕ × TypeRow)
with_red_row p None rows = rows
with_red_row p (Some red) rows = if is_some (place_of red rows) then rows else with_row (red_row_of p red) rows

abbrev pub with_params : PayloadParams → List (ℕ × TypeRow) → List (ℕ × TypeRow)
with_params p rows = with_red_row p p.red (with_row (row_of p) rows)

-- the rows of codecs, in their order, behind others
abbrev pub types_after : List (ℕ × TypeRow) → List PayloadParams → List (ℕ × TypeRow)
types_after rows [] = rows
types_after rows (p ∷ ps) = types_after (with_params p rows) ps

abbrev pub types_of : List PayloadParams → List (ℕ × TypeRow)
types_of params = types_after [] params
