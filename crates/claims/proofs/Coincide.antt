-- A row for each public function: any two results that its contract admits coincide, every part of them.
-- The rows speak of the contracts as the sources state them. What borrows, or is seen as something else, is compared as its contract sees it.
-- Of a generic function there is a row for all its types: C, S and R stand for them, and a1, a2, .. for the laws and the traits that they bring.
use Rattle.std.proofs.Common.{ℕ, ◌≡◌, sym, ◌∙◌, ap, refl, arith, List, [], ◌∷◌, Option, Some, None, Result, Ok, Err}
use Rattle.std.specs.Borrow.{Bor}
use Rattle.std.specs.Option.{option_map}
use Rattle.std.specs.Iterator.{YieldsFirstBy}
use Rattle.std.proofs.lemmas.Grind.{common_steps}
use Rattle.refusal.specs.declared.Refusal.{Refusal}
use Rattle.refusal.specs.declared.UnknownRefusal.{UnknownRefusal}
use Rattle.refusal.specs.Number.{number_of, IsRefusalNumbered}
use Rattle.index_entry.specs.IndexEntry as index_entry
use Rattle.file_name.specs.declared.file_name.FileName.{FileName}
use Rattle.file_name.specs.declared.file_name.Namespace.{Namespace}
use Rattle.file_name.specs.FileName.{namespace_code, IsReadFrom}
use Rattle.upcase_table.specs.declared.upcase_table.UpcaseTable.{UpcaseTable}
use Rattle.upcase_table.specs.UpcaseTable.{table_units, IsTableOf}
use Rattle.index_root.specs.IndexRoot as index_root
use Rattle.index_allocation.specs.IndexAllocation as index_allocation
use Rattle.index_allocation.specs.IndexAllocation.{found}
use Rattle.index_record.specs.IndexRecord as index_record
use Rattle.directory.specs.Seen as directory
use Rattle.directory.specs.Seen.{answer_seen, opened, node_seen, lent_bytes, below, entry_read}
use Rattle.collation.specs.declared.file_names.SoughtName.{SoughtName}
use Rattle.collation.specs.Names.{sought_units, IsSoughtName}
use Rattle.index.specs.Seen.{stepped}
use Rattle.capture.specs.Contents.{told, parts_told}
use Rattle.replay_cases.specs.declared.cases.Case.{Case}
use Rattle.replay_cases.specs.declared.cases.Cases.{Cases}
use Rattle.replay_cases.specs.Cases.{TakesCase}
use Rattle.replay_cases.specs.declared.fixture.Setup.{Setup}
use Rattle.replay_cases.specs.declared.fixture.UnknownSetup.{UnknownSetup}
use Rattle.replay_cases.specs.Fixture as fixture
use Rattle.claims.specs.Coincide.{Coincide, LeavesOne}
use Rattle.refusal.proofs.Refusal.number.Reads as number-reads
use Rattle.refusal.proofs.RefusalTryFromU8.try_from.Reads as try-from-number
use Rattle.refusal.proofs.U8FromRefusal.from.Reads as into-number
use Rattle.le.proofs.le16.Reads as le16
use Rattle.le.proofs.le32.Reads as le32
use Rattle.le.proofs.le48.Reads as le48
use Rattle.le.proofs.le64.Reads as le64
use Rattle.le.proofs.signed.Reads as signed-reads
use Rattle.le.proofs.signed_le64.Reads as signed-le64
use Rattle.file_reference.proofs.FileReference.from_bytes.Reads as from-bytes
use Rattle.file_reference.proofs.FileReference.file_record_number.Reads as file-record-number
use Rattle.file_reference.proofs.FileReference.sequence_number.Reads as sequence-number
use Rattle.index_entry.proofs.IndexEntry.new.Reads as entry-new
use Rattle.index_entry.proofs.IndexEntry.file_reference.Reads as file-reference
use Rattle.index_entry.proofs.IndexEntry.index_entry_length.Reads as index-entry-length
use Rattle.index_entry.proofs.IndexEntry.key_length.Reads as key-length
use Rattle.index_entry.proofs.IndexEntry.flags.Reads as flags-reads
use Rattle.index_entry.proofs.IndexEntry.has_subnode.Reads as has-subnode
use Rattle.index_entry.proofs.IndexEntry.is_last_entry.Reads as is-last-entry
use Rattle.index_entry.proofs.IndexEntry.subnode_vcn.Reads as subnode-vcn
use Rattle.index_entry.proofs.IndexEntry.key.Reads as key-reads
use Rattle.file_name.proofs.file_name.FileNameTryFromRefSliceU8.try_from.Reads as file-name
use Rattle.file_name.proofs.name.Reads as name-reads
use Rattle.upcase_table.proofs.LeUnits.new.Reads as le-units
use Rattle.upcase_table.proofs.upcase_table.UpcaseTableTryFromRefSliceU16.try_from.Reads as upcase-table
use Rattle.upcase_table.proofs.compare.Reads as compare-reads
use Rattle.upcase_table.proofs.compare_by_place.Reads as compare-by-place
use Rattle.upcase_table.proofs.upcase_cmp.Reads as upcase-cmp
use Rattle.upcase_table.proofs.upcase_cmp_keys.Reads as upcase-cmp-keys
use Rattle.upcase_table.proofs.Upcase.upcase.Reads as upcase-reads
use Rattle.index_root.proofs.index_record_size.Reads as index-record-size
use Rattle.index_root.proofs.is_large_index.Reads as is-large-index
use Rattle.index_root.proofs.IndexRoot.new.Reads as root-new
use Rattle.index_allocation.proofs.check_sizes.Reads as check-sizes
use Rattle.index_allocation.proofs.block_number.Reads as block-number
use Rattle.index_allocation.proofs.record_from_vcn.Reads as record-from-vcn
use Rattle.index_allocation.proofs.IndexAllocation.new.Reads as allocation-new
use Rattle.index_allocation.proofs.IndexAllocation.place.Reads as place-in-pool
use Rattle.index_allocation.proofs.IndexAllocation.records.Reads as records-in-pool
use Rattle.index_allocation.proofs.IndexAllocation.record.Reads as record-in-pool
use Rattle.index_record.proofs.IndexRecord.new.Reads as record-new
use Rattle.directory.proofs.Answer.told.Reads as told-reads
use Rattle.directory.proofs.Directory.open.Reads as open-reads
use Rattle.directory.proofs.OpenDirectory.root_node.Reads as root-node
use Rattle.directory.proofs.OpenDirectory.records.Reads as records-reads
use Rattle.directory.proofs.OpenDirectory.node_bytes.Reads as node-bytes
use Rattle.directory.proofs.OpenDirectory.place.Reads as place-reads
use Rattle.directory.proofs.OpenDirectory.open_below.Reads as open-below
use Rattle.directory.proofs.OpenDirectory.open_again.Reads as open-again
use Rattle.directory.proofs.Node.read.Reads as read-reads
use Rattle.directory.proofs.Node.entries.Reads as entries-reads
use Rattle.directory.proofs.Node.entry.Reads as entry-reads
use Rattle.directory.proofs.Node.entry_at.Reads as entry-at
use Rattle.collation.proofs.file_names.SoughtNameTryFromRefSliceU16.try_from.Reads as sought-name
use Rattle.collation.proofs.Collation.compare_sought.Reads as compare-sought
use Rattle.collation.proofs.Collation.check_key.Reads as check-key
use Rattle.collation.proofs.Collation.compare_keys.Reads as compare-keys
use Rattle.index_finder.proofs.find.Reads as find-reads
use Rattle.index_finder.proofs.find_file_name.Reads as find-file-name
use Rattle.index.proofs.Cursor.new.Reads as new-cursor
use Rattle.index.proofs.Cursor.step.Reads as step-reads
use Rattle.index.proofs.step.Reads as step-by-value
use Rattle.index_node.proofs.check_pool.Reads as check-pool
use Rattle.index_node.proofs.open_root.Reads as open-root
use Rattle.index_node.proofs.open_node.Reads as open-node
use Rattle.index_node.proofs.open_record.Reads as open-record
use Rattle.index_node.proofs.node_bytes.Reads as named-node-bytes
use Rattle.index_node.proofs.node_start.Reads as node-start
use Rattle.index_node.proofs.place_bytes.Reads as place-bytes
use Rattle.index_node.proofs.entry_bytes.Reads as entry-bytes
use Rattle.index_node.proofs.key_bytes.Reads as key-bytes
use Rattle.checker.proofs.check.Reads as check-reads
use Rattle.checker.proofs.check_file_names.Reads as check-file-names
use Rattle.upcase_table.proofs.UnitsByPlace.unit_count.Reads as unit-count
use Rattle.upcase_table.proofs.UnitsByPlace.unit_at.Reads as unit-at
use Rattle.upcase_table.proofs.Units.next_unit.Reads as next-unit
use Rattle.directory.proofs.node.NodeEntriesIterator.next.Reads as next-entry
use Rattle.capture.proofs.parse.Reads as parse
use Rattle.capture.proofs.root_bytes.Reads as captured-root
use Rattle.capture.proofs.copy_pool.Reads as copy-pool
use Rattle.capture.proofs.capture.Capture.copy_pool.Reads as copy-records
use Rattle.capture_line.proofs.Line.bytes.Reads as line-bytes
use Rattle.capture_line.proofs.Closing.bytes.Reads as closing-bytes
use Rattle.capture_line.proofs.line_length.Reads as line-length
use Rattle.capture_line.proofs.line_byte.Reads as line-byte
use Rattle.capture_line.proofs.opened_length.Reads as opened-length
use Rattle.capture_line.proofs.opened_byte.Reads as opened-byte
use Rattle.capture_line.proofs.refused_length.Reads as refused-length
use Rattle.capture_line.proofs.refused_byte.Reads as refused-byte
use Rattle.replay_cases.proofs.number_at.Reads as number-at
use Rattle.replay_cases.proofs.part.Reads as part-reads
use Rattle.replay_cases.proofs.directory_in.Reads as directory-in
use Rattle.replay_cases.proofs.cases.CasesIterator.next.Reads as next-case
use Rattle.replay_cases.proofs.LossyWriter.new.Reads as lossy-new
use Rattle.replay_cases.proofs.fixture.SetupTryFromUsize.try_from.Reads as try-from-setup
use Rattle.replay_cases.proofs.MadeTable.unit.Reads as unit-reads
use Rattle.replay_cases.proofs.Fixture.set_up.Reads as set-up
use Rattle.replay_cases.proofs.Fixture.directory.Reads as fixture-directory
use Rattle.c_api.proofs.ntfs_new_cursor.Reads as ntfs-new-cursor
use Rattle.c_api.proofs.ntfs_step.Reads as ntfs-step
use Rattle.c_api.proofs.ntfs_find.Reads as ntfs-find
use Rattle.c_api.proofs.ntfs_check.Reads as ntfs-check
use Rattle.c_api.proofs.ntfs_entry_name.Reads as ntfs-entry-name

-- two that equal one definition are equal
same : {A : Type 0} {x y d : A} → x ≡ d → y ≡ d → x ≡ y
same p q = p ∙ sym q

number_of-one : (x y : Refusal) → number_of x ≡ number_of y → x ≡ y
number_of-one x y is = grind (arith, common_steps)

numbered-one : (number : ℕ) (x y : Result Refusal UnknownRefusal) → IsRefusalNumbered number x → IsRefusalNumbered number y → x ≡ y
numbered-one number (Ok x) (Ok y) p q = ap Ok (number_of-one x y (same p q))
numbered-one number (Ok x) (Err e) p q = absurd (q.1 x p)
numbered-one number (Err e) (Ok y) p q = absurd (p.1 y q)
numbered-one number (Err e) (Err f) p q = ap Err (same p.0 q.0)

namespace_code-one : (x y : Namespace) → namespace_code x ≡ namespace_code y → x ≡ y
namespace_code-one x y is = grind (arith, common_steps)

-- a file name as its bytes and its namespace
abbrev name_read : Result FileName Refusal → Result (List ℕ × Namespace) Refusal
name_read (Ok name) = Ok (name.units.now, name.namespace)
name_read (Err refusal) = Err refusal

name-one : (key : Bor (List ℕ)) (x y : Result FileName Refusal) → IsReadFrom key x → IsReadFrom key y → name_read x ≡ name_read y
name-one key (Ok x) (Ok y) (p, c) (q, d) =
    let bytes : ◌≡◌ {A = Result (List ℕ) Refusal} (Ok x.units.now) (Ok y.units.now) = sym p ∙ q in
    let its : x.units.now ≡ y.units.now = cc in
    let namespace = namespace_code-one x.namespace y.namespace (same c d) in
    rw (its, namespace) refl
name-one key (Ok x) (Err refusal) (p, c) q = let no : ◌≡◌ {A = Result (List ℕ) Refusal} (Ok x.units.now) (Err refusal) = sym p ∙ q in cc
name-one key (Err refusal) (Ok y) p (q, d) = let no : ◌≡◌ {A = Result (List ℕ) Refusal} (Err refusal) (Ok y.units.now) = sym p ∙ q in cc
name-one key (Err refusal) (Err other) p q =
    let no : ◌≡◌ {A = Result (List ℕ) Refusal} (Err refusal) (Err other) = sym p ∙ q in
    let its : refusal ≡ other = cc in ap Err its

-- a table and a sought name as their units
abbrev table_read : Result UpcaseTable Refusal → Result (List ℕ) Refusal
table_read (Ok table) = Ok (table_units table)
table_read (Err refusal) = Err refusal

table-one : (units : Bor (List ℕ)) (x y : Result UpcaseTable Refusal) → IsTableOf units x → IsTableOf units y → table_read x ≡ table_read y
table-one units (Ok x) (Ok y) p q = ap Ok (same p.0 q.0)
table-one units (Ok x) (Err refusal) p q = absurd (q.1 p.1)
table-one units (Err refusal) (Ok y) p q = absurd (p.1 q.1)
table-one units (Err refusal) (Err other) p q = ap Err (same p.0 q.0)

abbrev name_sought : Result SoughtName Refusal → Result (List ℕ) Refusal
name_sought (Ok name) = Ok (sought_units name)
name_sought (Err refusal) = Err refusal

sought-one : (units : Bor (List ℕ)) (x y : Result SoughtName Refusal) → IsSoughtName units x → IsSoughtName units y → name_sought x ≡ name_sought y
sought-one units (Ok x) (Ok y) p q = ap Ok (same p.0 q.0)
sought-one units (Ok x) (Err refusal) p q = absurd (omega (arith, p.1, q.1))
sought-one units (Err refusal) (Ok y) p q = absurd (omega (arith, p.1, q.1))
sought-one units (Err refusal) (Err other) p q = ap Err (same p.0 q.0)

-- what takes the first of a list: that, and the rest
module _ {S A B : Type 0} (view : A → B) (rest : S → List B) (s : S) where
  first-one : (x y : Option A) (t u : S) → YieldsFirstBy view rest s x t → YieldsFirstBy view rest s y u
      → (option_map view x ≡ option_map view y) × (rest t ≡ rest u)
  first-one (Some x) (Some y) t u p q = let is : view x ∷ rest t ≡ view y ∷ rest u = sym p ∙ q in (cc, cc)
  first-one (Some x) None t u p q = let no : view x ∷ rest t ≡ [] = sym p ∙ q.0 in cc
  first-one None (Some y) t u p q = let no : [] ≡ view y ∷ rest u = sym p.0 ∙ q in cc
  first-one None None t u p q = (refl, same p.1 q.1)

itself : {A : Type 0} (x y : Option A) → option_map (λ it. it) x ≡ option_map (λ it. it) y → x ≡ y
itself (Some x) (Some y) is = is
itself (Some x) None is = cc
itself None (Some y) is = cc
itself None None is = refl

-- a case as its tag and its body, and cases as the bytes that are left with the size of a tag
abbrev pub case_read : Case → List ℕ × List ℕ
case_read case = (case.tag.now, case.body.now)

abbrev pub cases_left : Cases → List ℕ × ℕ
cases_left cases = (cases.input.now, cases.tag)

cases-one : (cases : Cases) (x y : Option Case) (s t : Cases) → TakesCase cases x s → TakesCase cases y t
    → (option_map case_read x ≡ option_map case_read y) × (cases_left s ≡ cases_left t)
cases-one cases (Some x) (Some y) s t (_, tag, body, input, size) (_, tag', body', input', size') =
    (rw (tag, body, tag', body') refl, rw (input, size, input', size') refl)
cases-one cases (Some x) None s t p q = absurd (q.0 p.0)
cases-one cases None (Some y) s t p q = absurd (p.0 q.0)
cases-one cases None None s t p q = (refl, rw (p.1, q.1) refl)

setup_number-one : (x y : Setup) → fixture.number_of x ≡ fixture.number_of y → x ≡ y
setup_number-one x y is = grind (arith, common_steps)

setup-one : (number : ℕ) (x y : Result Setup UnknownSetup) → fixture.IsSetupNumbered number x → fixture.IsSetupNumbered number y → x ≡ y
setup-one number (Ok x) (Ok y) p q = ap Ok (setup_number-one x y (same p q))
setup-one number (Ok x) (Err e) p q = absurd (q.1 x p)
setup-one number (Err e) (Ok y) p q = absurd (p.1 y q)
setup-one number (Err e) (Err f) p q = ap Err (same p.0 q.0)

pub one_number : Coincide number-reads.Post (λ l x. x)
one_number l a x y s t = same

pub one_try_from_number : Coincide try-from-number.Post (λ l x. x)
one_try_from_number l a x y s t = numbered-one a.0 x y

pub one_into_number : Coincide into-number.Post (λ l x. x)
one_into_number l a x y s t = same

pub one_le16 : Coincide le16.Post (λ l x. x)
one_le16 l a x y s t = same

pub one_le32 : Coincide le32.Post (λ l x. x)
one_le32 l a x y s t = same

pub one_le48 : Coincide le48.Post (λ l x. x)
one_le48 l a x y s t = same

pub one_le64 : Coincide le64.Post (λ l x. x)
one_le64 l a x y s t = same

pub one_signed : Coincide signed-reads.Post (λ l x. x)
one_signed l a x y s t = same

pub one_signed_le64 : Coincide signed-le64.Post (λ l x. x)
one_signed_le64 l a x y s t = same

pub one_from_bytes : Coincide from-bytes.Post (λ l x. x)
one_from_bytes l a x y s t = same

pub one_file_record_number : Coincide file-record-number.Post (λ l x. x)
one_file_record_number l a x y s t = same

pub one_sequence_number : Coincide sequence-number.Post (λ l x. x)
one_sequence_number l a x y s t = same

pub one_entry_new : Coincide entry-new.Post (λ l x. index_entry.made x)
one_entry_new l a x y s t p q = same p.0 q.0

pub one_file_reference : Coincide file-reference.Post (λ l x. x)
one_file_reference l a x y s t = same

pub one_index_entry_length : Coincide index-entry-length.Post (λ l x. x)
one_index_entry_length l a x y s t = same

pub one_key_length : Coincide key-length.Post (λ l x. x)
one_key_length l a x y s t = same

pub one_flags : Coincide flags-reads.Post (λ l x. x)
one_flags l a x y s t = same

pub one_has_subnode : Coincide has-subnode.Post (λ l x. x)
one_has_subnode l a x y s t = same

pub one_is_last_entry : Coincide is-last-entry.Post (λ l x. x)
one_is_last_entry l a x y s t = same

pub one_subnode_vcn : Coincide subnode-vcn.Post (λ l x. x)
one_subnode_vcn l a x y s t = same

pub one_key : Coincide key-reads.Post (λ l x. index_entry.lent x)
one_key l a x y s t = same

pub one_file_name : Coincide file-name.Post (λ l x. name_read x)
one_file_name l a x y s t = name-one a.0 x y

pub one_name : Coincide name-reads.Post (λ l x. x.now)
one_name l a x y s t = same

pub one_le_units : Coincide le-units.Post (λ l x. x)
one_le_units l a x y s t = same

pub one_upcase_table : Coincide upcase-table.Post (λ l x. table_read x)
one_upcase_table l a x y s t = table-one a.0 x y

pub one_compare : (C : _) (S : _) (R : _) (a1 : _) (a2 : _) (a3 : _) (a4 : _) (a5 : _) (a6 : _) (a7 : _) (a8 : _) (a9 : _) (a10 : _) (a11 : _)
    → Coincide (compare-reads.Post C S R a1 a2 a3 a4 a5 a6 a7 a8 a9 a10 a11) (λ l x. x)
one_compare C S R a1 a2 a3 a4 a5 a6 a7 a8 a9 a10 a11 l a x y s t = same

pub one_compare_by_place : (C : _) (S : _) (R : _) (a1 : _) (a2 : _) (a3 : _) (a4 : _) (a5 : _) (a6 : _) (a7 : _) (a8 : _) (a9 : _) (a10 : _) (a11 : _) (a12 : _) (a13 : _)
    (a14 : _) (a15 : _)
    → Coincide (compare-by-place.Post C S R a1 a2 a3 a4 a5 a6 a7 a8 a9 a10 a11 a12 a13 a14 a15) (λ l x. x)
one_compare_by_place C S R a1 a2 a3 a4 a5 a6 a7 a8 a9 a10 a11 a12 a13 a14 a15 l a x y s t = same

pub one_upcase_cmp : Coincide upcase-cmp.Post (λ l x. x)
one_upcase_cmp l a x y s t = same

pub one_upcase_cmp_keys : Coincide upcase-cmp-keys.Post (λ l x. x)
one_upcase_cmp_keys l a x y s t = same

pub one_upcase : (C : _) (a1 : _) (a2 : _) (a3 : _) → Coincide (upcase-reads.Post C a1 a2 a3) (λ l x. x)
one_upcase C a1 a2 a3 l a x y s t = same

pub one_index_record_size : Coincide index-record-size.Post (λ l x. x)
one_index_record_size l a x y s t = same

pub one_is_large_index : Coincide is-large-index.Post (λ l x. x)
one_is_large_index l a x y s t = same

pub one_root_new : Coincide root-new.Post (λ l x. index_root.read x)
one_root_new l a x y s t = same

pub one_check_sizes : Coincide check-sizes.Post (λ l x. x)
one_check_sizes l a x y s t p q = same p.0 q.0

pub one_block_number : Coincide block-number.Post (λ l x. x)
one_block_number l a x y s t = same

pub one_record_from_vcn : Coincide record-from-vcn.Post (λ l x. x)
one_record_from_vcn l a x y s t p q = same p.0 q.0

pub one_allocation_new : Coincide allocation-new.Post (λ l x. index_allocation.read x)
one_allocation_new l a x y s t = same

pub one_place_in_pool : Coincide place-in-pool.Post (λ l x. found x)
one_place_in_pool l a x y s t p q = same p.0 q.0

pub one_records_in_pool : Coincide records-in-pool.Post (λ l x. x)
one_records_in_pool l a x y s t = same

pub one_record_in_pool : Coincide record-in-pool.Post (λ l x. index_allocation.lent x)
one_record_in_pool l a x y s t = same

pub one_record_new : Coincide record-new.Post (λ l x. index_record.read x)
one_record_new l a x y s t = same

pub one_told : Coincide told-reads.Post (λ l x. answer_seen x)
one_told l a x y s t = same

pub one_open : Coincide open-reads.Post (λ l x. opened x)
one_open l a x y s t = same

pub one_root_node : Coincide root-node.Post (λ l x. node_seen x)
one_root_node l a x y s t = same

pub one_records : Coincide records-reads.Post (λ l x. x)
one_records l a x y s t = same

pub one_node_bytes : Coincide node-bytes.Post (λ l x. lent_bytes x)
one_node_bytes l a x y s t = same

pub one_place : Coincide place-reads.Post (λ l x. found x)
one_place l a x y s t p q = same p.0 q.0

pub one_open_below : Coincide open-below.Post (λ l x. below x)
one_open_below l a x y s t p q = same p.0 q.0

pub one_open_again : Coincide open-again.Post (λ l x. directory.read x)
one_open_again l a x y s t = same

pub one_read : Coincide read-reads.Post (λ l x. directory.read x)
one_read l a x y s t = same

pub one_entries : Coincide entries-reads.Post (λ l x. x)
one_entries l a x y s t p q = same p.0 q.0

pub one_entry : Coincide entry-reads.Post (λ l x. directory.made x)
one_entry l a x y s t p q = same p.0 q.0

pub one_entry_at : Coincide entry-at.Post (λ l x. entry_read x)
one_entry_at l a x y s t p q = same p.0 q.0

pub one_sought_name : Coincide sought-name.Post (λ l x. name_sought x)
one_sought_name l a x y s t = sought-one a.0 x y

pub one_compare_sought : (C : _) (S : _) (a1 : _) (a2 : _) (a3 : _) (a4 : _) (a5 : _) (a6 : _) (a7 : _)
    → Coincide (compare-sought.Post C S a1 a2 a3 a4 a5 a6 a7) (λ l x. x)
one_compare_sought C S a1 a2 a3 a4 a5 a6 a7 l a x y s t = same

pub one_check_key : (C : _) (S : _) (a1 : _) (a2 : _) (a3 : _) (a4 : _) (a5 : _) (a6 : _) (a7 : _)
    → Coincide (check-key.Post C S a1 a2 a3 a4 a5 a6 a7) (λ l x. x)
one_check_key C S a1 a2 a3 a4 a5 a6 a7 l a x y s t = same

pub one_compare_keys : (C : _) (S : _) (a1 : _) (a2 : _) (a3 : _) (a4 : _) (a5 : _) (a6 : _) (a7 : _)
    → Coincide (compare-keys.Post C S a1 a2 a3 a4 a5 a6 a7) (λ l x. x)
one_compare_keys C S a1 a2 a3 a4 a5 a6 a7 l a x y s t = same

pub one_find : (C : _) (S : _) (a1 : _) (a2 : _) (a3 : _) (a4 : _) (a5 : _) (a6 : _) (a7 : _)
    → Coincide (find-reads.Post C S a1 a2 a3 a4 a5 a6 a7) (λ l x. answer_seen x)
one_find C S a1 a2 a3 a4 a5 a6 a7 l a x y s t = same

pub one_find_file_name : Coincide find-file-name.Post (λ l x. answer_seen x)
one_find_file_name l a x y s t = same

pub one_new_cursor : Coincide new-cursor.Post (λ l x. x)
one_new_cursor l a x y s t = same

pub one_step : Coincide step-reads.Post (λ l x. answer_seen x)
one_step l a x y s t p q = ap (λ its. its.answer) (same p q)

pub one_step_leaves : LeavesOne step-reads.Post (λ l s. s.0.now)
one_step_leaves l a x y s t p q = ap (λ its. its.cursor) (same p q)

pub one_step_by_value : Coincide step-by-value.Post (λ l x. stepped x)
one_step_by_value l a x y s t = same

pub one_check_pool : Coincide check-pool.Post (λ l x. x)
one_check_pool l a x y s t = same

pub one_open_root : Coincide open-root.Post (λ l x. index_root.read x)
one_open_root l a x y s t = same

pub one_open_node : Coincide open-node.Post (λ l x. directory.read x)
one_open_node l a x y s t = same

pub one_open_record : Coincide open-record.Post (λ l x. directory.read x)
one_open_record l a x y s t = same

pub one_named_node_bytes : Coincide named-node-bytes.Post (λ l x. x.now)
one_named_node_bytes l a x y s t = same

pub one_node_start : Coincide node-start.Post (λ l x. x)
one_node_start l a x y s t = same

pub one_place_bytes : Coincide place-bytes.Post (λ l x. x.now)
one_place_bytes l a x y s t = same

pub one_entry_bytes : Coincide entry-bytes.Post (λ l x. x.now)
one_entry_bytes l a x y s t = same

pub one_key_bytes : Coincide key-bytes.Post (λ l x. x.now)
one_key_bytes l a x y s t = same

pub one_check : (C : _) (S : _) (a1 : _) (a2 : _) (a3 : _) (a4 : _) (a5 : _) (a6 : _) (a7 : _) → Coincide (check-reads.Post C S a1 a2 a3 a4 a5 a6 a7) (λ l x. x)
one_check C S a1 a2 a3 a4 a5 a6 a7 l a x y s t p q = ap (λ its. its.verdict) (same p q)

pub one_check_marks : (C : _) (S : _) (a1 : _) (a2 : _) (a3 : _) (a4 : _) (a5 : _) (a6 : _) (a7 : _)
    → LeavesOne (check-reads.Post C S a1 a2 a3 a4 a5 a6 a7) (λ l s. s.1.1.0.now)
one_check_marks C S a1 a2 a3 a4 a5 a6 a7 l a x y s t p q = ap (λ its. its.marks) (same p q)

pub one_check_file_names : Coincide check-file-names.Post (λ l x. x)
one_check_file_names l a x y s t p q = ap (λ its. its.verdict) (same p q)

pub one_check_file_names_marks : LeavesOne check-file-names.Post (λ l s. s.1.1.0.now)
one_check_file_names_marks l a x y s t p q = ap (λ its. its.marks) (same p q)

pub one_unit_count : (C : _) (a1 : _) (a2 : _) (a3 : _) (a4 : _) (a5 : _) (a6 : _) → Coincide (unit-count.Post C a1 a2 a3 a4 a5 a6) (λ l x. x)
one_unit_count C a1 a2 a3 a4 a5 a6 l a x y s t = same

pub one_unit_at : (C : _) (a1 : _) (a2 : _) (a3 : _) (a4 : _) (a5 : _) (a6 : _) → Coincide (unit-at.Post C a1 a2 a3 a4 a5 a6) (λ l x. x)
one_unit_at C a1 a2 a3 a4 a5 a6 l a x y s t = same

pub one_next_unit : (C : _) (a1 : _) (a2 : _) (a3 : _) (a4 : _) → Coincide (next-unit.Post C a1 a2 a3 a4) (λ l x. x)
one_next_unit C a1 a2 a3 a4 l a x y s t p q = itself x y (first-one (λ it. it) a2.units a.0.now x y s.0.now t.0.now p q).0

pub one_next_unit_left : (C : _) (a1 : _) (a2 : _) (a3 : _) (a4 : _) → LeavesOne (next-unit.Post C a1 a2 a3 a4) (λ l s. a2.units s.0.now)
one_next_unit_left C a1 a2 a3 a4 l a x y s t p q = (first-one (λ it. it) a2.units a.0.now x y s.0.now t.0.now p q).1

pub one_next_entry : Coincide next-entry.Post (λ l x. option_map directory.made x)
one_next_entry l a x y s t p q = (first-one directory.made (λ left. left) a.0.now x y s.0.now t.0.now p.0 q.0).0

pub one_next_entry_left : LeavesOne next-entry.Post (λ l s. s.0.now)
one_next_entry_left l a x y s t p q = (first-one directory.made (λ left. left) a.0.now x y s.0.now t.0.now p.0 q.0).1

pub one_parse : Coincide parse.Post (λ l x. told x)
one_parse l a x y s t p q = same p.0 q.0

pub one_parse_parts : Coincide parse.Post (λ l x. parts_told x)
one_parse_parts l a x y s t p q = same p.1 q.1

pub one_captured_root : Coincide captured-root.Post (λ l x. x.now)
one_captured_root l a x y s t = same

pub one_copy_pool : Coincide copy-pool.Post (λ l x. x)
one_copy_pool l a x y s t p q = same p.0 q.0

pub one_copied_pool : LeavesOne copy-pool.Post (λ l s. s.1.0.now)
one_copied_pool l a x y s t p q = same p.1 q.1

pub one_copy_records : Coincide copy-records.Post (λ l x. x)
one_copy_records l a x y s t p q = same p.0 q.0

pub one_copied_records : LeavesOne copy-records.Post (λ l s. s.1.0.now)
one_copied_records l a x y s t p q = same p.1 q.1

pub one_line_bytes : Coincide line-bytes.Post (λ l x. x.items)
one_line_bytes l a x y s t = same

pub one_closing_bytes : Coincide closing-bytes.Post (λ l x. x.items)
one_closing_bytes l a x y s t = same

pub one_line_length : Coincide line-length.Post (λ l x. x)
one_line_length l a x y s t = same

pub one_line_byte : Coincide line-byte.Post (λ l x. x)
one_line_byte l a x y s t = same

pub one_opened_length : Coincide opened-length.Post (λ l x. x)
one_opened_length l a x y s t = same

pub one_opened_byte : Coincide opened-byte.Post (λ l x. x)
one_opened_byte l a x y s t = same

pub one_refused_length : Coincide refused-length.Post (λ l x. x)
one_refused_length l a x y s t = same

pub one_refused_byte : Coincide refused-byte.Post (λ l x. x)
one_refused_byte l a x y s t = same

-- the cases that are replayed: a directory is its root's bytes, its pool's and its cluster size, and what is lent is memory and table
pub one_number_at : Coincide number-at.Post (λ l x. x)
one_number_at l a x y s t p q = same p.0 q.0

pub one_part : Coincide part-reads.Post (λ l x. x.now)
one_part l a x y s t = same

pub one_lent_root : Coincide directory-in.Post (λ l x. x.root.now)
one_lent_root l a x y s t p q = same p.0 q.0

pub one_lent_pool : Coincide directory-in.Post (λ l x. x.pool.now)
one_lent_pool l a x y s t p q = same p.1.0 q.1.0

pub one_lent_cluster_size : Coincide directory-in.Post (λ l x. x.cluster_size)
one_lent_cluster_size l a x y s t p q = same p.1.1 q.1.1

pub one_next_case : Coincide next-case.Post (λ l x. option_map case_read x)
one_next_case l a x y s t p q = (cases-one a.0.now x y s.0.now t.0.now p.0 q.0).0

pub one_cases_left : LeavesOne next-case.Post (λ l s. cases_left s.0.now)
one_cases_left l a x y s t p q = (cases-one a.0.now x y s.0.now t.0.now p.0 q.0).1

pub one_lossy_writer : (W : _) (a1 : _) (a2 : _) (a3 : _) → Coincide (lossy-new.Post W a1 a2 a3) (λ l x. x.writer)
one_lossy_writer W a1 a2 a3 l a x y s t p q = same p.0 q.0

pub one_lossy_count : (W : _) (a1 : _) (a2 : _) (a3 : _) → Coincide (lossy-new.Post W a1 a2 a3) (λ l x. x.count)
one_lossy_count W a1 a2 a3 l a x y s t p q = same p.1 q.1

pub one_try_from_setup : Coincide try-from-setup.Post (λ l x. x)
one_try_from_setup l a x y s t = setup-one a.0 x y

pub one_unit : Coincide unit-reads.Post (λ l x. x)
one_unit l a x y s t = same

pub one_set_up : Coincide set-up.Post (λ l x. x)
one_set_up l a x y s t p q = refl

pub one_set_up_memory : LeavesOne set-up.Post (λ l s. s.0.now.memory.now)
one_set_up_memory l a x y s t p q = same p.0 q.0

pub one_set_up_table : LeavesOne set-up.Post (λ l s. s.0.now.table.now)
one_set_up_table l a x y s t p q = same p.1.0 q.1.0

pub one_fixture_root : Coincide fixture-directory.Post (λ l x. x.root.now)
one_fixture_root l a x y s t p q = same p.0 q.0

pub one_fixture_pool : Coincide fixture-directory.Post (λ l x. x.pool.now)
one_fixture_pool l a x y s t p q = same p.1.0 q.1.0

pub one_fixture_cluster_size : Coincide fixture-directory.Post (λ l x. x.cluster_size)
one_fixture_cluster_size l a x y s t p q = same p.1.1 q.1.1

-- for C: nothing is returned, and every number of the lent arrays is one
pub one_ntfs_new_cursor : Coincide ntfs-new-cursor.Post (λ l x. x)
one_ntfs_new_cursor l a x y s t p q = refl

pub one_new_cursor_words : LeavesOne ntfs-new-cursor.Post (λ l s. s.0.now)
one_new_cursor_words l a x y s t = same

pub one_ntfs_step : Coincide ntfs-step.Post (λ l x. x)
one_ntfs_step l a x y s t p q = refl

pub one_step_cursor : LeavesOne ntfs-step.Post (λ l s. s.1.1.1.1.0.now)
one_step_cursor l a x y s t p q = same p.0 q.0

pub one_step_answer : LeavesOne ntfs-step.Post (λ l s. s.1.1.1.1.1.0.now)
one_step_answer l a x y s t p q = same p.1 q.1

pub one_ntfs_find : Coincide ntfs-find.Post (λ l x. x)
one_ntfs_find l a x y s t p q = refl

pub one_find_answer : LeavesOne ntfs-find.Post (λ l s. s.1.1.1.1.1.1.0.now)
one_find_answer l a x y s t = same

pub one_ntfs_check : Coincide ntfs-check.Post (λ l x. x)
one_ntfs_check l a x y s t p q = refl

pub one_ntfs_check_marks : LeavesOne ntfs-check.Post (λ l s. s.1.1.1.1.0.now)
one_ntfs_check_marks l a x y s t p q = same p.0 q.0

pub one_ntfs_check_answer : LeavesOne ntfs-check.Post (λ l s. s.1.1.1.1.1.0.now)
one_ntfs_check_answer l a x y s t p q = same p.1 q.1

pub one_ntfs_entry_name : Coincide ntfs-entry-name.Post (λ l x. x)
one_ntfs_entry_name l a x y s t p q = refl

pub one_entry_name_answer : LeavesOne ntfs-entry-name.Post (λ l s. s.1.0.now)
one_entry_name_answer l a x y s t = same
