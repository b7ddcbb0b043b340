-- Checking a directory of file names.
use Rattle.std.specs.Prelude.{ℕ, ◌==◌, not, List, length, if◌then◌else◌}
use Rattle.refusal.specs.declared.Refusal.TheVariants.{TableLength}
use Rattle.directory.specs.Lent.{Lent}
use Rattle.upcase_table.specs.UpcaseTable.{table_size, mapped_by}
use Rattle.collation.specs.Names.{file_names}
use Rattle.checker.specs.Check.{Checked, refused_at_once, check}

-- 19, then 1 to 7, 21 and the walk
unfoldable pub check_file_names : Lent → (table marks : List ℕ) → Checked
check_file_names d table marks =
    if not (length table == table_size) then refused_at_once TableLength marks
    else check d (file_names (mapped_by table)) marks
