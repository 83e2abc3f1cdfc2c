-- The parts of a table's definition, as they are kept.
use Rattle.hq_value.specs.declared.table.Parts.{Parts}
use Rattle.hq_value.specs.Tables.{Definition}

abbrev pub definition : Parts → Definition
definition parts = record { name = parts.name; columns = parts.columns; keys = parts.keys }
