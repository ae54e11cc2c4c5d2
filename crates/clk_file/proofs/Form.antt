-- The tests of a file's shape, part by part.
use Rattle.std.proofs.Common.{◌≡◌, None, codes, ap, ◌∙◌}
use Rattle.std.specs.Option.{option_or}
use Rattle.toml.specs.Data.{Members}
use Rattle.clk_base.specs.First.{first_from}
use Rattle.clk_base.proofs.Firsts.{first_from-is}
use Rattle.clk_machine.specs.declared.rows.Row.TheVariants as rows
use Rattle.clk_file.specs.Keys.{Test, top_table, known_keys}
use Rattle.clk_file.specs.Shape.{version_in, top_keys, number_tests, cpu_tests, reader_tests, delay_tests, source_tests, shape_tests}
use Rattle.clk_file.specs.Parts.{reference_rows, required_entries, optional_entries, bring_up_rows, watch_rows}

pub shape_tests-parts : (t : Members) (r0 r1 r2 r3 r4 r5 r6 r7 r8 r9 : Test)
    → r1 ≡ option_or r0 (known_keys top_table 0 (top_keys (version_in t)) t)
    → r2 ≡ first_from r1 (number_tests t)
    → r3 ≡ first_from r2 (reference_rows t)
    → r4 ≡ first_from r3 (required_entries rows.Cpu (codes "cpu") (cpu_tests (version_in t)) t)
    → r5 ≡ first_from r4 (optional_entries rows.Reader (codes "reader") reader_tests t)
    → r6 ≡ first_from r5 (optional_entries rows.Delay (codes "delay") delay_tests t)
    → r7 ≡ first_from r6 (bring_up_rows (version_in t) t)
    → r8 ≡ first_from r7 (watch_rows t)
    → r9 ≡ first_from r8 (optional_entries rows.Source (codes "source") source_tests t)
    → r9 ≡ first_from r0 (shape_tests t)
shape_tests-parts t r0 r1 r2 r3 r4 r5 r6 r7 r8 r9 keys numbers reference cpus readers delays bring_up watchdog sources =
    sources ∙ ap (λ r. first_from r (optional_entries rows.Source (codes "source") source_tests t))
    (watchdog ∙ ap (λ r. first_from r (watch_rows t))
    (bring_up ∙ ap (λ r. first_from r (bring_up_rows (version_in t) t))
    (delays ∙ ap (λ r. first_from r (optional_entries rows.Delay (codes "delay") delay_tests t))
    (readers ∙ ap (λ r. first_from r (optional_entries rows.Reader (codes "reader") reader_tests t))
    (cpus ∙ ap (λ r. first_from r (required_entries rows.Cpu (codes "cpu") (cpu_tests (version_in t)) t))
    (reference ∙ ap (λ r. first_from r (reference_rows t))
    (numbers ∙ first_from-is r1 (number_tests t) ∙ ap (λ r. option_or r (first_from None (number_tests t))) keys)))))))
