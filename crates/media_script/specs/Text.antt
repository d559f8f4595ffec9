-- The lines of a transcript.
use Rattle.std.specs.Prelude.{ℕ, List, [], ◌∷◌, ◌++◌, length, codes, Bool, true, false, ◌==◌, ◌/◌, ◌%◌, if◌then◌else◌}
use Rattle.std.specs.List.{flat_map, join_with_byte}
use Rattle.std.specs.Fmt.{decimal, digit_glyph}
use Rattle.media_model.specs.declared.entry.Side.{Side}
use Rattle.media_model.specs.declared.entry.Call.{Call}
use Rattle.media_model.specs.declared.entry.Packet.{Packet}
use Rattle.media_model.specs.declared.entry.Write.{Write as Written}
use Rattle.media_model.specs.declared.entry.Got.{Got as GotEntry}
use Rattle.media_model.specs.declared.entry.Sealed.{Sealed as SealedEntry}
use Rattle.media_model.specs.declared.entry.Opened.{Opened as OpenedEntry}
use Rattle.media_model.specs.declared.entry.Entry.{Entry}
use Rattle.media_model.specs.declared.entry.Entry.TheVariants.{Wrote, Ticked, Called, Sealed, Got, Opened, Yielded}
use Rattle.media_model.specs.Genuine.{is_genuine}
use Rattle.media_script.specs.Names.{side_text, kind_text, call_text, flag_text}

-- two digits of a byte
abbrev pub byte_text : ℕ → List ℕ
byte_text b = digit_glyph false (b / 16) ∷ digit_glyph false (b % 16) ∷ []

-- bytes in lower-case hex, and - for none
abbrev pub hex_text : List ℕ → List ℕ
hex_text bytes = if length bytes == 0 then codes "-" else flat_map byte_text bytes

-- words with one space between two
abbrev pub words : List (List ℕ) → List ℕ
words ws = join_with_byte 32 ws

-- the line of each kind of entry
abbrev pub wrote_text : Side → Written → List ℕ
wrote_text side write = words (codes "wrote" ∷ side_text side ∷ decimal write.ssrc ∷ decimal write.number ∷ [])

abbrev pub ticked_text : Side → ℕ → List ℕ
ticked_text side time = words (codes "ticked" ∷ side_text side ∷ decimal time ∷ [])

abbrev pub called_text : Side → Call → List ℕ
called_text side call = words (codes "called" ∷ side_text side ∷ call_text call ∷ [])

abbrev pub got_text : GotEntry → List ℕ
got_text got = words (codes "got" ∷ side_text got.side ∷ kind_text got.kind ∷ decimal (length got.bytes) ∷ [])

abbrev pub sealed_text : SealedEntry → List ℕ
sealed_text s =
    words (codes "sealed" ∷ side_text s.side ∷ kind_text s.kind ∷ decimal s.ssrc ∷ decimal s.index ∷ hex_text s.bytes ∷ [])

abbrev pub opened_text : OpenedEntry → List ℕ
opened_text o = words (codes "opened" ∷ side_text o.side ∷ kind_text o.kind ∷ decimal o.ssrc ∷ decimal o.index ∷ [])

abbrev pub yielded_text : Side → Packet → List ℕ
yielded_text side packet =
    words (codes "yielded" ∷ side_text side ∷ decimal packet.ssrc ∷ decimal packet.number ∷ decimal packet.pt
    ∷ flag_text packet.marker ∷ decimal packet.rtp_time ∷ hex_text packet.payload ∷ [])

abbrev pub line_text : Entry → List ℕ
line_text (Wrote side time write) = wrote_text side write
line_text (Ticked side time) = ticked_text side time
line_text (Called side time call) = called_text side call
line_text (Got got) = got_text got
line_text (Sealed sealed) = sealed_text sealed
line_text (Opened opened) = opened_text opened
line_text (Yielded side packet) = yielded_text side packet

-- a line for each entry
abbrev pub entries_text : List Entry → List ℕ
entries_text entries = flat_map (λ e. line_text e ++ codes "\n") entries

abbrev pub answer_text : Bool → List ℕ
answer_text false = codes "no"
answer_text true = codes "yes"

-- the last line
abbrev pub end_text : Bool → Bool → List ℕ
end_text genuine repairs = codes "end genuine=" ++ (answer_text genuine ++ (codes " repairs=" ++ (answer_text repairs ++ codes "\n")))

-- the text of a run that was played to its end, and whether its repairs widen
abbrev pub text_of : Bool → List Entry → List ℕ
text_of repairs entries = entries_text entries ++ end_text (is_genuine entries) repairs
