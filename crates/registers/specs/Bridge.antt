-- The code's table of registers by the rules' own.
use Rattle.std.specs.Prelude.{Option, Some, None, if◌then◌else◌}
use Rattle.rules.specs.Registers as rules
use Rattle.registers.specs.declared.Writable as code

-- A row of the rules' table, without its address: in the code a row's place says it. A register that is read only has no Fresh and no Largest.
unfoldable pub row : rules.Register → Option code.Writable
row r = if r.read_only then None else Some (record { fresh = r.fresh; largest = r.largest })
