use Rattle.std.proofs.Common.{◌≡◌, length, map}
use Rattle.idl_tokens.specs.Tables.{beside}
use Rattle.idl_tokens.proofs.tables.beside.Given as goal

abbrev pub invariant-loop-table : goal.invariant-loop-table
invariant-loop-table g l = beside (map (λ entry. (entry.0.now, entry.1)) l.table) l.word ≡ beside (map (λ entry. (entry.0.now, entry.1)) l.initial.table) l.word

abbrev pub decreases-loop-table : goal.decreases-loop-table
decreases-loop-table g l = length l.table
