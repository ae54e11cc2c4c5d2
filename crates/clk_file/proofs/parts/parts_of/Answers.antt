use Rattle.std.proofs.Common.{[], ◌∷◌, codes, refl, ◌∙◌, rules, FitsSigned, w64, to_z-of_z}
use Rattle.std.proofs.lemmas.List.{length-map}
use Rattle.toml.specs.View.{table_view}
use Rattle.clk_file.specs.Keys.{top_table}
use Rattle.clk_file.specs.Shape.{version_in, first_top_keys}
use Rattle.clk_file.proofs.Form.{shape_tests-parts}
use Rattle.clk_file.proofs.Versions.{known_by_version}
use Rattle.clk_file.proofs.parts.parts_of.Goals as goal

pub returns-clause-test : goal.returns-clause-test
returns-clause-test c =
    let t = table_view c.args.top.now in
    let named : FitsSigned w64 c.version_of.result = search rules in
    let fits : FitsSigned w64 c.numbers_of-numbers.result.version = search rules in
    let keys = known_by_version _ top_table 0 _ (version_in t) _ first_top_keys (codes "base" ∷ []) t _ _ refl (to_z-of_z named ∙ c.version_of.ensures) c.by_version-keys.ensures c.known_keys.ensures in
    let cpus = rw c.numbers_of-numbers.ensures.value.version at c.in_ok-cpu.ensures.test in
    let bring_up = rw (to_z-of_z fits, c.numbers_of-numbers.ensures.value.version) at c.bring_up_of-bringup.ensures.test in
    shape_tests-parts t _ _ _ _ _ _ _ _ _ _ keys c.numbers_of-numbers.ensures.test c.reference_of-reference.ensures.test cpus
    c.in_ok-reader.ensures.test c.in_ok-delay.ensures.test bring_up c.watchdog_of-watchdog.ensures.test c.in_ok-source.ensures.test

pub returns-clause-well_formed : goal.returns-clause-well_formed
returns-clause-well_formed c = record {
  cpu = rw length-map c.in_ok-cpu.ensures.short;
  cpus = c.in_ok-cpu.ensures.each_short;
  reader = rw length-map c.in_ok-reader.ensures.short;
  readers = c.in_ok-reader.ensures.each_short;
  delay = rw length-map c.in_ok-delay.ensures.short;
  source = rw length-map c.in_ok-source.ensures.short;
  sources = search rules;
}
