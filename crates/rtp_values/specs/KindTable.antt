-- The table of the kinds as the code reads it.
use Rattle.rtp_values.specs.declared.known_kind.Kind as table
use Rattle.rtp_values.specs.Kind.{Kind}

-- what a row says of its kind
abbrev pub kind_in : table.Kind → Kind
kind_in row = record { uri = row.uri.now; name = row.name.now; audio = row.audio; video = row.video }
