-- The line that a history prints.
use Rattle.std.specs.Prelude.{ℕ, List, [], ◌∷◌, ◌++◌, Bool, true, false, Option, Some, None, codes, length, ◌==◌}
use Rattle.std.specs.List.{flat_map}
use Rattle.pg_script_trace.specs.PgText.Writing.{update_text}
use Rattle.pg_script_trace.specs.PgWorldAccount.declared.entry.Entry.{Entry}

-- each behind a comma
abbrev pub more_entries : List Entry → List ℕ
more_entries = flat_map (λ entry. 44 ∷ update_text entry.update)

-- with commas between them
abbrev pub listed_entries : List Entry → List ℕ
listed_entries [] = []
listed_entries (entry ∷ entries) = update_text entry.update ++ more_entries entries

-- one behind the others, if there is one
abbrev pub last_entry : Bool → Option Entry → List ℕ
last_entry is_first None = []
last_entry true (Some entry) = update_text entry.update
last_entry false (Some entry) = 44 ∷ update_text entry.update

-- `history [UPDATE,..]`
abbrev pub history_line : List Entry → Option Entry → List ℕ
history_line entries last = codes "history [" ++ (listed_entries entries ++ (last_entry (length entries == 0) last ++ codes "]\n"))
