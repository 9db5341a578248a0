use Rattle.std.proofs.Common.{◌≡◌, ◌<◌, sym, ◌∙◌, rules}
use Rattle.std.proofs.ByRecursion.{All-from_get_or}
use Rattle.tables.specs.Headers.{header_read}
use Rattle.tables.specs.Words.{words}
use Rattle.tables.proofs.HeaderTests.{passing_packed}
use Rattle.tables.proofs.header.unpack_header.Goals as goal

pub returns-clause-back : goal.returns-clause-back
returns-clause-back g c =
    let id = g.R.Rule.id c.args.rule.now in
    let bytes = c.args.bytes.now in
    let value : c.test_header.result ≡ header_read id (words bytes) = search rules in
    λ shape ok. passing_packed id bytes shape c.told-bytes (All-from_get_or (λ b. b < 256) bytes 0 (λ i h. c.fits-bytes i)) (sym value ∙ ok)
