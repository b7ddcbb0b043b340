-- Looking a file name up.
use Rattle.std.specs.Prelude.{ℕ, ◌==◌, nat_lt, not, Bool, List, length, if◌then◌else◌}
use Rattle.refusal.specs.declared.Refusal.TheVariants.{TableLength, NameTooLong}
use Rattle.directory.specs.Answer.{Answered, refused}
use Rattle.directory.specs.Lent.{Lent}
use Rattle.upcase_table.specs.UpcaseTable.{table_size, mapped_by}
use Rattle.collation.specs.Names.{name_limit, file_names}
use Rattle.index_finder.specs.Find.{find}

-- 19, 20, then 1 to 7 and the walk
unfoldable pub find_file_name : Lent → (ℕ → Bool) → (table name : List ℕ) → Answered
find_file_name d spent table name =
    if not (length table == table_size) then refused TableLength 0
    else if nat_lt name_limit (length name) then refused NameTooLong 0
    else find d spent (file_names (mapped_by table)) name
