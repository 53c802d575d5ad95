use Rattle.std.proofs.Common.{refl, arith}
use Rattle.layout.specs.Fields.{be16, be32}
use Rattle.clip.proofs.FieldRuns.{runs4}
use Rattle.dsp.specs.Export.{address_bytes}
use Rattle.dsp.proofs.ExportedFields.{addresses-length}
use Rattle.dsp.proofs.exporting.put_looped.Goals as goal

pub returns : goal.returns
returns c =
    runs4 c.args.header.now c.put16.new.buf c.put16-2.new.buf c.put_addresses.new.header c.put32.new.buf (be16 c.args.flag) (be16 0) (address_bytes c.args.looped) (be32 2) 12 14 16 24
    c.put16.ensures c.put16-2.ensures c.put_addresses.ensures c.put32.ensures refl refl (omega (arith, addresses-length c.args.looped))
