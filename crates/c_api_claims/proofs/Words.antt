-- The promises of the numbers that cross to C and Rust.
use Rattle.std.proofs.Common.{zero, suc, ℕ, Bool, refl, subst, sym}
use Rattle.file_reference.specs.Reference.{reference_of}
use Rattle.index_entry.specs.Entry.{entry_at, key_of, is_last}
use Rattle.collation.specs.Kind.{Kind}
use Rattle.directory.specs.Answer.{Answered, some}
use Rattle.directory.specs.Lent.{Lent}
use Rattle.index.specs.declared.cursor.Cursor.{Cursor}
use Rattle.index.specs.Cursor.{new_cursor}
use Rattle.index.specs.Step.{step}
use Rattle.index_finder.specs.Find.{find}
use Rattle.index_run.specs.Run.{answer_after}
use Rattle.index_run.proofs.Running.{steps_are_the_listing}
use Rattle.c_api.specs.Lies.{AnswerLies}
use Rattle.c_api.specs.Words.{answer_words, entry_name_words}
use Rattle.c_api.proofs.Lies.{step-lies, find-lies, find_file_name-lies}
use Rattle.c_api_claims.proofs.Places.{place_named}
use Rattle.c_api_claims.specs.Words.{Names, AnswerNames, NumbersName, EntryNames}

lies-names : (d : Lent) (answer : Answered) → AnswerLies d answer → AnswerNames d answer
lies-names d answer lies entry opened is =
    let its : AnswerLies d (some entry opened) = subst (AnswerLies d) is lies in
    subst (λ (a : Answered). Names d (answer_words d a) entry.bytes) (sym is) (record { within = its.within; same = its.same })

after-lies : (d : Lent) (spent : ℕ → Bool) (before : ℕ) (cursor : Cursor) → AnswerLies d (answer_after d spent before cursor)
unfolding answer_after
after-lies d spent zero cursor = step-lies d spent cursor
after-lies d spent (suc before) cursor = after-lies d spent before ((step d spent cursor).cursor)

pub numbers_name : NumbersName
numbers_name = record {
  of_step = λ d spent cursor. lies-names d _ (step-lies d spent cursor);
  of_listing = λ d spent at. lies-names d _ (subst (AnswerLies d) (steps_are_the_listing d spent at) (after-lies d spent at new_cursor));
  of_lookup = λ d spent kind sought. lies-names d _ (find-lies d spent kind sought);
  of_file_name = λ d spent table name. lies-names d _ (find_file_name-lies d spent table name);
  of_place = place_named;
}

-- and of each that a lookup in any kind of key answers
pub named_for_any_kind : {K : Type 0} (d : Lent) (spent : ℕ → Bool) (kind : Kind K) (sought : K) → AnswerNames d (find d spent kind sought)
named_for_any_kind d spent kind sought = lies-names d _ (find-lies d spent kind sought)

pub entry_names : EntryNames
unfolding entry_at key_of is_last reference_of entry_name_words
entry_names = record { named = refl; last = refl; past = refl; short = refl; namespace = refl; none = refl }
