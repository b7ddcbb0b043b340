-- What a lookup answers is its contract: any result that it admits is the definition's.
-- And what a larger allowance changes in it: 19 and 20 do not depend on it.
use Rattle.std.proofs.Common.{ℕ, ◌≡◌, nat_lt, nat_eq, not, Bool, true, false, length, refl, if◌then◌else◌}
use Rattle.refusal.specs.declared.Refusal.TheVariants.{AllowanceSpent, TableLength, NameTooLong}
use Rattle.upcase_table.specs.UpcaseTable.{table_size, mapped_by}
use Rattle.collation.specs.Names.{name_limit, file_names}
use Rattle.directory.specs.Answer.{Answered, refused}
use Rattle.directory.specs.Directory.{spent_at}
use Rattle.index_finder.specs.Find as Find
use Rattle.index_finder.specs.FileNames.{find_file_name}
use Rattle.directory.specs.Seen.{lent, answer_seen}
use Rattle.index_finder.proofs.find_file_name.Reads as reads
use Rattle.index_finder.proofs.Allowances.{more_for}
use Rattle.claims.specs.Contract.{Promises}
use Rattle.claims.specs.Lookup.{MoreForLookup, MoreForAnyKind}

-- lookup is the recursive search, for any directory, name, table and allowance
pub find : Promises reads.Post (λ l a x. answer_seen x ≡ find_file_name (lent a.0.now) (spent_at a.1.1.1.0) a.1.0.now a.1.1.0.now)
find l a x s p = p

pub by_name : MoreForLookup
unfolding find_file_name
by_name d table name few more less = by (nat_eq (length table) table_size) (nat_lt name_limit (length name))
  where
    judged : (whole long : Bool) (allowance : ℕ) → Answered
    judged whole long allowance =
        if not whole then refused TableLength 0
        else if long then refused NameTooLong 0
        else Find.find d (spent_at allowance) (file_names (mapped_by table)) name

    by : (whole long : Bool) → ((opened : ℕ) → judged whole long few ≡ refused AllowanceSpent opened → ⊥) → judged whole long more ≡ judged whole long few
    by false long settled = refl
    by true true settled = refl
    by true false settled = more_for (file_names (mapped_by table)) name d few more less settled

-- of a key of any kind
pub more_for_any_kind : MoreForAnyKind
more_for_any_kind K = more_for
