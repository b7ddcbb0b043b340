-- The three numbers of a place name its bytes and no byte outside what holds it, whatever the place.
use Rattle.std.proofs.Common.{zero, suc, ℕ, ℤ, pos, negsuc, ◌≡◌, ◌+◌, ◌*◌, ◌/◌, ◌%◌, ◌≤◌, ◌<◌, Bool, true, false, nat_le, List, [], length, take, drop}
use Rattle.std.proofs.Common.{refl, sym, ◌∙◌, ap, subst, arith, Result, Ok, Err}
use Rattle.std.proofs.Math.Nat.{mod-add-div'}
use Rattle.std.proofs.lemmas.Grind.{common_steps}
use Rattle.std.proofs.lemmas.List.{take_all}
use Rattle.refusal.specs.declared.Refusal.{Refusal}
use Rattle.refusal.specs.Then.{◌>>=◌}
use Rattle.index_root.specs.Root.{record_size_of}
use Rattle.index_allocation.specs.Allocation.{block_of, record_in, record_at, bytes_of}
use Rattle.directory.specs.Lent.{Lent}
use Rattle.index.specs.declared.cursor.NodeName.{NodeName}
use Rattle.index.specs.declared.cursor.NodeName.TheVariants.{Root, Record}
use Rattle.index_node.specs.Node.{pool_lent, record_placed}
use Rattle.index_node.specs.Bytes.{part_of, bytes_placed, node_bytes, place_bytes}
use Rattle.c_api.specs.Lies.{held_by}
use Rattle.c_api.proofs.Places.{are_at-cut, are_at-part}
use Rattle.c_api_claims.specs.Places.{span_at, span_where, span_in, span_in_record, place_span, SpanNames}

part-there : (bytes : List ℕ) (at size : ℕ) → at + size ≤ length bytes → part_of bytes at size ≡ take size (drop at bytes)
unfolding part_of
part-there bytes at size fits = grind (arith, common_steps)

part-none : (bytes : List ℕ) (at size : ℕ) → length bytes < at + size → part_of bytes at size ≡ []
unfolding part_of
part-none bytes at size past = grind (arith, common_steps)

-- of no bytes there is no part
part-nil : (at size : ℕ) → part_of [] at size ≡ []
part-nil zero zero = part-there [] 0 0 (omega arith)
part-nil zero (suc size) = part-none [] 0 (suc size) (omega arith)
part-nil (suc at) size = part-none [] (suc at) size (omega arith)

none-names : (d : Lent) (holder : ℕ) (bytes : List ℕ) → [] ≡ bytes → SpanNames d (span_at holder 0 0) bytes
none-names d holder bytes is = record { within = omega arith; same = part-there (held_by d holder) 0 0 (omega arith) ∙ is }

-- in a node of len bytes that begins at `from` in what holds it
in-names : (d : Lent) (holder from len at size : ℕ) → from + len ≤ length (held_by d holder)
    → SpanNames d (span_in holder from len at size) (part_of (take len (drop from (held_by d holder))) at size)
in-names d holder from len at size fits = by (nat_le (at + size) len) refl
  where
    node : List ℕ
    node = take len (drop from (held_by d holder))

    long : length node ≡ len
    long = let its = are_at-cut (held_by d holder) from len fits in grind (arith, common_steps)

    by : (inside : Bool) → nat_le (at + size) len ≡ inside
        → SpanNames d (span_where inside holder from at size) (part_of node at size)
    by false test =
        let past : len < at + size = grind (arith, common_steps) in
        none-names d holder (part_of node at size) (sym (part-none node at size (omega (arith, long, past))))
    by true test =
        let inside : at + size ≤ len = grind (arith, common_steps) in
        let part = take size (drop at node) in
        let its = are_at-part (held_by d holder) node part from at (are_at-cut (held_by d holder) from len fits)
        (are_at-cut node at size (omega (arith, long, inside))) in
        let size_is : length part ≡ size = grind (arith, common_steps) in
        record {
          within = omega (arith, its.within, size_is);
          same =
              part-there (held_by d holder) (from + at) size (omega (arith, its.within, size_is))
              ∙ ap (λ n. take n (drop (from + at) (held_by d holder))) (sym size_is) ∙ its.same
              ∙ sym (part-there node at size (omega (arith, long, inside)));
        }

record_in-inside : (offset size pool number : ℕ) → record_in offset size pool ≡ Ok number → number * size + size ≤ pool
unfolding record_in
record_in-inside offset size pool number is =
    let divided = mod-add-div' offset size in
    let whole : offset % size ≡ 0 = grind (arith, common_steps) in
    let same : number ≡ offset / size = grind (arith, common_steps) in
    let inside : offset + size ≤ pool = grind (arith, common_steps) in
    rw same (omega (arith, divided, whole, inside))

record_at-inside : (vcn : ℤ) (cluster_size size pool number : ℕ) → record_at vcn cluster_size size pool ≡ Ok number → number * size + size ≤ pool
unfolding record_at block_of
record_at-inside (negsuc below) cluster_size size pool number is = cc
record_at-inside (pos cluster) cluster_size size pool number is =
    let lies : record_in (cluster * cluster_size) size pool ≡ Ok number = grind (arith, common_steps) in
    record_in-inside (cluster * cluster_size) size pool number lies

pub place_named : (d : Lent) (node : NodeName) (at size : ℕ) → SpanNames d (place_span d node at size) (place_bytes d node at size)
unfolding place_span place_bytes node_bytes record_placed
place_named d Root at size =
    subst (λ (bytes : List ℕ). SpanNames d (span_in 0 0 (length d.root) at size) (part_of bytes at size)) (take_all (length d.root) d.root (omega arith))
    (in-names d 0 0 (length d.root) at size (omega arith))
place_named d (Record vcn) at size = by (record_at vcn d.cluster_size (record_size_of d.root) (length d.pool)) refl
  where
    by : (number : Result ℕ Refusal) → record_at vcn d.cluster_size (record_size_of d.root) (length d.pool) ≡ number
        → SpanNames d (span_in_record d number at size)
        (part_of (bytes_placed (number >>= λ n. Ok (record { number = n; vcn = vcn; bytes = bytes_of (pool_lent d) n }))) at size)
    by (Err refusal) was = none-names d 1 (part_of [] at size) (sym (part-nil at size))
    by (Ok number) was =
        in-names d 1 (number * record_size_of d.root) (record_size_of d.root) at size
        (record_at-inside vcn d.cluster_size (record_size_of d.root) (length d.pool) number was)
