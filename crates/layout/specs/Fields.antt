-- What the code's records of fixed fields say: the meaning's records.
use Rattle.meaning.specs.Layout as layout
use Rattle.layout.specs.declared.Header.{Header}
use Rattle.layout.specs.declared.Entry.{Entry}
use Rattle.layout.specs.declared.Head.{Head}

abbrev pub header_fields : Header → layout.Header
header_fields h = record { version = h.version; terms = h.terms; docs = h.docs; bytes = h.bytes }

abbrev pub entry_fields : Entry → layout.Entry
entry_fields e = record { first = e.first; count = e.count; largest = e.largest }

abbrev pub head_fields : Head → layout.Head
head_fields h = record { count = h.count; width = h.width; largest = h.largest; last = h.last }
