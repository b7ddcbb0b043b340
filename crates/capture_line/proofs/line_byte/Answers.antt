use Rattle.std.proofs.Common.{◌≡◌, [], ◌∷◌, ◌++◌, get_or, arith, ap, sym, ◌∙◌}
use Rattle.std.proofs.lemmas.Grind.{common_steps}
use Rattle.std.specs.Fmt.{decimal}
use Rattle.file_reference.specs.Reference.{reference_of, record_number_of, sequence_of}
use Rattle.index_entry.specs.Entry.{key_of}
use Rattle.file_name.specs.FileName.{namespace_code}
use Rattle.capture_line.specs.Text.{spaced, name_text, named_text, key_part_text, line_of}
use Rattle.capture_line.proofs.NameText.{line_named}
use Rattle.capture_line.proofs.line_byte.Goals as goal

pub returns-in-Some : goal.returns-in-Some
returns-in-Some c =
    let a = decimal (record_number_of (reference_of c.args.entry.now)) in
    let b = decimal (sequence_of (reference_of c.args.entry.now)) in
    let d = decimal (namespace_code c.in-Some.name.namespace) in
    let head : c.as_slice.result.now ≡ ((a ++ spaced (b ++ 32 ∷ [])) ++ d) ++ 32 ∷ [] = grind (arith, common_steps) in
    let key : key_part_text (key_of c.args.entry.now) ≡ d ++ spaced (name_text c.in-Some.name.units.now) = sym c.name_of.ensures.text ∙ ap named_text c.in-Some.is in
    c.byte_behind.ensures ∙ ap (λ l. get_or l c.args.i 0) (line_named a b d _ _ _ key head)

pub returns-in-None : goal.returns-in-None
returns-in-None c =
    let a = decimal (record_number_of (reference_of c.args.entry.now)) in
    let b = decimal (sequence_of (reference_of c.args.entry.now)) in
    let key : key_part_text (key_of c.args.entry.now) ≡ named_text c.name_of.result = sym c.name_of.ensures.text in
    let all : c.as_slice-in-None.result.now ≡ line_of c.args.entry.now = grind (arith, common_steps) in
    c.byte_at.ensures ∙ ap (λ l. get_or l c.args.i 0) all
