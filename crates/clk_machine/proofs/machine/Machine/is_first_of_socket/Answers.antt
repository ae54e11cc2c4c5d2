use Rattle.clk_machine.proofs.Sockets.{first_of_socket}
use Rattle.clk_machine.proofs.machine.Machine.is_first_of_socket.Goals as goal

pub returns : goal.returns
returns c =
    first_of_socket c.self.inside.parts c.args.self.now c.args.cpu c.cpu.result.now c.has_socket.result c.self.view_is c.cpu.ensures.plan
    (rw c.items.ensures at c.has_socket.ensures)
