-- The types of what a description tells (RFC 3550 section 12.2).
use Rattle.std.specs.Prelude.{ℕ, ◌==◌, if◌then◌else◌}
use Rattle.rtcp_items.specs.declared.source.SdesType.{SdesType}
use Rattle.rtcp_items.specs.declared.source.SdesType.TheVariants.{CNAME, NAME, EMAIL, PHONE, LOC, TOOL, NOTE, PRIV, Unknown}
use Rattle.rtcp_items.specs.declared.source.TheConstants.{CNAME_TYPE, NAME_TYPE, EMAIL_TYPE, PHONE_TYPE, LOC_TYPE, TOOL_TYPE, NOTE_TYPE, PRIV_TYPE}

-- the type that a number names, and the number of a type (RFC 3550 section 12.2)
abbrev pub sdes_type_of : ℕ → SdesType
sdes_type_of n =
    if n == CNAME_TYPE then CNAME
    else (if n == NAME_TYPE then NAME
    else (if n == EMAIL_TYPE then EMAIL
    else (if n == PHONE_TYPE then PHONE
    else (if n == LOC_TYPE then LOC
    else (if n == TOOL_TYPE then TOOL
    else (if n == NOTE_TYPE then NOTE
    else (if n == PRIV_TYPE then PRIV
    else Unknown n)))))))

abbrev pub sdes_number : SdesType → ℕ
sdes_number CNAME = CNAME_TYPE
sdes_number NAME = NAME_TYPE
sdes_number EMAIL = EMAIL_TYPE
sdes_number PHONE = PHONE_TYPE
sdes_number LOC = LOC_TYPE
sdes_number TOOL = TOOL_TYPE
sdes_number NOTE = NOTE_TYPE
sdes_number PRIV = PRIV_TYPE
sdes_number (Unknown n) = n
