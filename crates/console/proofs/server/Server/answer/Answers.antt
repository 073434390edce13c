-- `console::server::Server::answer` meets its contract: 64 bytes of the output are lent for the answer.
-- Assumes nothing.
use Prim.Native.Nat.{◌+◌, ◌-◌, ◌≤◌}
use mathlib.Core.Path.{◌≡◌, refl, sym}
use native.Mathlib.Omega.{arith}
use lib.ListN.{length}
use Rattle.console.proofs.Answering.{answered-so}
use Rattle.console.proofs.server.Server.answer.Goals as goal

pub returns : goal.returns
returns c =
    let a = c.args in
    let t = c.tell-length in
    let size = a.written + 64 - a.written in
    let k : size ≡ 64 = omega arith in
    let room : a.written + 64 ≤ length c.as_mut_slice-out.result.now = rw c.as_mut_slice-out.ensures.value (omega (arith, c.requires, a.self.now.room)) in
    rw (sym c.front-string.ensures, sym c.as_mut_slice-out.ensures.value)
    (answered-so c.front-string.result.now a.self.now.drive.machine c.as_mut_slice-out.result.now a.written size t.new.buffer t.new.drive.machine t.result _ _
    room k t.auto.buffer t.ensures.machine t.ensures.answer t.ensures.buffer c.wait.ensures c.min.ensures refl refl)
