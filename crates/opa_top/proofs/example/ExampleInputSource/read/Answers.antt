use Rattle.std.proofs.Common.{◌≡◌, ◌∙◌, ap, min, ◌-◌, ◌+◌, take, drop, length, arith}
use Rattle.opa_io.proofs.Moved.{moved, moved_none}
use Rattle.opa_top.proofs.example.ExampleInputSource.read.Goals as goal

pub returns-clause-bytes : goal.returns-clause-bytes
returns-clause-bytes c =
    let s = c.args.self.now in
    let least : c.min-count.result ≡ min (min (length c.args.buf.now) 4096) (length s.bytes.items - s.at) = omega (arith, c.min-count.ensures, c.min.ensures, c.len.ensures, s.bytes.ok.0) in
    let is = c.copy_from_slice.ensures.after ∙ ap (λ b. take (s.at + c.min-count.result - s.at) (drop s.at b)) c.deref.ensures.value in (
      moved s.bytes.items c.args.buf.now c.copy_from_slice.new.self s.at c.min-count.result 4096 (omega (arith, s.within, s.bytes.ok.0)) (omega arith) least is,
      moved_none s.bytes.items c.args.buf.now c.copy_from_slice.new.self s.at c.min-count.result 4096 (omega (arith, s.within, s.bytes.ok.0)) (omega arith) least is,
    )
