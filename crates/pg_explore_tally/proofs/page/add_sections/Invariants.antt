use Rattle.std.proofs.Common.{◌≡◌, ◌++◌, take}
use Rattle.std.specs.Prelude.{string_bytes}
use Rattle.std.specs.List.{flat_map}
use Rattle.pg_explore_tally.specs.Pages.{section_of}
use Rattle.pg_explore_tally.proofs.page.add_sections.Given as goal

abbrev pub invariant-loop-section : goal.invariant-loop-section
invariant-loop-section l = string_bytes l.out ≡ string_bytes l.initial.out ++ flat_map (section_of l.width) (take l.section-index l.sections)
