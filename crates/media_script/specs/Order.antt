-- Which setup lines may stand together, and in which order.
use Rattle.std.specs.Prelude.{◌≡◌, ℕ, List, [], ◌∷◌, ◌++◌, length, filter, nat_lt, Bool, true, false, not, ◌&&◌, ◌==◌, if◌then◌else◌, Option, Some, None, codes}
use Rattle.std.specs.List.{fold, list_any}
use Rattle.std.specs.Option.{option_to_list}
use Rattle.std.specs.Str.{bytes_eq}
use Rattle.media_model.specs.Sides.{same_side}
use Rattle.media_script.specs.Draft.{blank, told}
use Rattle.media_script.specs.Words.{◌>>=◌}
use Rattle.media_script.specs.declared.order.TheConstants.{MOST_MEDIA, MOST_STREAMS}
use Rattle.media_script.specs.declared.said.Said.{Said}
use Rattle.media_script.specs.declared.setup_line.Name.{Name}
use Rattle.media_script.specs.declared.setup_line.Name.TheVariants as name
use Rattle.media_script.specs.declared.setup_line.Per.{Per}
use Rattle.media_script.specs.declared.setup_line.Per.TheVariants as per_of
use Rattle.media_script.specs.declared.setup_line.SetupLine.{SetupLine}
use Rattle.media_script.specs.declared.setup_line.SetupLine.TheVariants as line

-- ---- a line of each kind

-- its first word
abbrev pub word : SetupLine → List ℕ
word (line.Cipher cipher) = codes "cipher"
word (line.Profile profile) = codes "profile"
word (line.Key key) = codes "key"
word (line.Unix beginning) = codes "unix"
word (line.Mtu mtu) = codes "mtu"
word (line.Pause threshold) = codes "pause"
word (line.Reports intervals) = codes "reports"
word (line.Rtcp side index) = codes "rtcp"
word (line.Local side ssrc) = codes "local"
word (line.Ext named) = codes "ext"
word (line.Type payload_type) = codes "type"
word (line.Media mid kind cname) = codes "media"
word (line.Stream mid stream) = codes "stream"
word (line.Start start) = codes "start"
word (line.Cache named) = codes "cache"

-- it may stand once in a script, for a side or for an SSRC; or any number of times
abbrev pub per : SetupLine → Option Per
per (line.Rtcp side index) = Some (per_of.Side side)
per (line.Local side ssrc) = Some (per_of.Side side)
per (line.Ext named) = None
per (line.Type payload_type) = None
per (line.Media mid kind cname) = None
per (line.Stream mid stream) = None
per (line.Start start) = Some (per_of.Ssrc start.ssrc)
per (line.Cache named) = Some (per_of.Ssrc named.ssrc)
per _ = Some per_of.Script

-- what has to stand before it
abbrev pub needs : SetupLine → Option Name
needs (line.Stream mid stream) = Some (name.Media mid)
needs (line.Start start) = Some (name.Stream start.ssrc)
needs (line.Cache named) = Some (name.Stream named.ssrc)
needs _ = None

-- what it brings
abbrev pub gives : SetupLine → Option Name
gives (line.Media mid kind cname) = Some (name.Media mid)
gives (line.Stream mid stream) = Some (name.Stream stream.ssrc)
gives _ = None

-- how many of its sort a script may have
abbrev pub most : Name → ℕ
most (name.Media mid) = MOST_MEDIA
most (name.Stream ssrc) = MOST_STREAMS

-- ---- lines of any kind

-- a slot is a first word, and what a line stands for once
abbrev pub slot : SetupLine → Option (List ℕ × Per)
slot l = per l >>= λ p. Some (word l, p)

abbrev pub same_per : Per → Per → Bool
same_per per_of.Script per_of.Script = true
same_per (per_of.Side a) (per_of.Side b) = same_side a b
same_per (per_of.Ssrc a) (per_of.Ssrc b) = a == b
same_per _ _ = false

abbrev pub same_slot : List ℕ × Per → List ℕ × Per → Bool
same_slot a b = bytes_eq a.0 b.0 && same_per a.1 b.1

-- the slot is not among these
abbrev pub is_free : List (List ℕ × Per) → Option (List ℕ × Per) → Bool
is_free taken None = true
is_free taken (Some slot) = not (list_any (same_slot slot) taken)

abbrev pub same_name : Name → Name → Bool
same_name (name.Media a) (name.Media b) = bytes_eq a b
same_name (name.Stream a) (name.Stream b) = a == b
same_name _ _ = false

-- what is needed is among these
abbrev pub is_met : List Name → Option Name → Bool
is_met known None = true
is_met known (Some need) = list_any (same_name need) known

abbrev pub same_sort : Name → Name → Bool
same_sort (name.Media a) (name.Media b) = true
same_sort (name.Stream a) (name.Stream b) = true
same_sort _ _ = false

-- how many of these are of one sort
abbrev pub count : List Name → Name → ℕ
count known name = length (filter (λ n. same_sort name n) known)

-- there may be one more of its sort
abbrev pub has_room : List Name → Option Name → Bool
has_room known None = true
has_room known (Some given) = nat_lt (count known given) (most given)

-- no line
abbrev pub none_said : Said
none_said = record { taken = []; known = []; draft = blank }

-- one line more
abbrev pub after : Said → SetupLine → Said
after said l = record {
  taken = said.taken ++ option_to_list (slot l);
  known = said.known ++ option_to_list (gives l);
  draft = told said.draft l;
}

-- what these lines say, and what they leave to later ones
abbrev pub said_by : List SetupLine → Said
said_by lines = fold after none_said lines

-- a line may stand behind these
abbrev pub fits : Said → SetupLine → Bool
fits said l =
    is_free said.taken (slot l) && (is_met said.known (needs l) && has_room said.known (gives l))

abbrev pub with_line : Said → SetupLine → Option Said
with_line said l = if fits said l then Some (after said l) else None

-- no two lines share a slot, each stands behind what it needs, and there are not too many of a sort
pub record AreInOrder (lines : List SetupLine) : Type 0 where
  pub apart :
      (before behind : List SetupLine) (l : SetupLine) → lines ≡ before ++ l ∷ behind
      → is_free (said_by before).taken (slot l) ≡ true
  pub placed :
      (before behind : List SetupLine) (l : SetupLine) → lines ≡ before ++ l ∷ behind
      → is_met (said_by before).known (needs l) ≡ true
  pub few :
      (before behind : List SetupLine) (l : SetupLine) → lines ≡ before ++ l ∷ behind
      → has_room (said_by before).known (gives l) ≡ true
