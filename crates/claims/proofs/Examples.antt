-- The examples hold: the checker computes both sides of each row.
use Rattle.std.proofs.Common.{refl}
use Rattle.le.specs.Le.{signed_at}
use Rattle.file_reference.specs.Reference.{reference_of}
use Rattle.index_entry.specs.Entry.{entry_at, key_of, subnode_of, is_last, has_subnode}
use Rattle.index_root.specs.Root.{root_of}
use Rattle.index_allocation.specs.Allocation.{sizes_judged, allocation_of, block_of, record_in, record_at}
use Rattle.index_record.specs.Record.{record_of}
use Rattle.directory.specs.Directory.{passed, placed, wanted, node_in, opening, subnode}
use Rattle.directory.specs.Node.{entry_in, entries_within, entries_at}
use Rattle.index.specs.Listing.{list_below, listing}
use Rattle.index_finder.specs.Find.{stands, find_below, find}
use Rattle.index_finder.specs.FileNames.{find_file_name}
use Rattle.checker.specs.Check.{key_in, judge, falls, reach, check_entries, check_from, check}
use Rattle.checker.specs.FileNames.{check_file_names}
use Rattle.claims.specs.Bench.{Bench}
use Rattle.claims.specs.Checks.{Checks}
use Rattle.claims.specs.Lookup.{Lookups}

pub bench : Bench
unfolding signed_at reference_of entry_at key_of subnode_of is_last has_subnode root_of sizes_judged allocation_of block_of record_in record_at record_of
    passed placed wanted node_in opening subnode entry_in entries_within entries_at list_below listing
bench = (refl, (refl, (refl, (refl, (refl, (refl, (refl, (refl, (refl, (refl, (refl, (refl, (refl, (refl, (refl, tt)))))))))))))))

pub lookups : Lookups
unfolding signed_at reference_of entry_at key_of subnode_of is_last has_subnode root_of sizes_judged allocation_of block_of record_in record_at record_of
    passed placed wanted node_in opening subnode entry_in entries_within entries_at stands find_below find find_file_name
lookups = (refl, (refl, (refl, (refl, (refl, (refl, (refl, (refl, tt))))))))

pub checks : Checks
unfolding signed_at entry_at key_of subnode_of is_last has_subnode root_of sizes_judged allocation_of block_of record_in record_at record_of
    passed placed wanted node_in entry_in entries_within entries_at key_in judge falls reach check_entries check_from check check_file_names
checks = (refl, (refl, (refl, (refl, (refl, (refl, (refl, (refl, (refl, (refl, tt))))))))))
