use mathlib.Core.Path.{◌≡◌, ◌∙◌, sym}
use mathlib.Core.Bool.{true, and-true}
use Rattle.layout.specs.Layout.{fits}
use Rattle.adhesion.specs.View.{constraints_view}
use Rattle.adhesion.proofs.Laws.{remade}
use Rattle.packets.specs.Layouts.{header_layout}
use Rattle.packets.specs.View.{packet_view, packet_values}
use Rattle.packets.proofs.Packet.fits.Goals as goal

pub returns-then-header : goal.returns-then-header
returns-then-header c =
    let h : fits header_layout (packet_values (packet_view c.args.self)).header ≡ true = cc in
    rw (h, c.in-TimingPoint.is) c.content_fits.ensures

pub returns-then-header-2 : goal.returns-then-header-2
returns-then-header-2 c =
    let h : fits header_layout (packet_values (packet_view c.args.self)).header ≡ true = cc in
    rw (h, c.in-JpReceived.is) (c.content_fits-then-header-2.ensures ∙ sym (and-true _))

pub returns-then-header-3 : goal.returns-then-header-3
returns-then-header-3 c =
    let h : fits header_layout (packet_values (packet_view c.args.self)).header ≡ true = cc in
    rw (h, c.in-AtoStatus.is) (c.content_fits-then-header-3.ensures ∙ sym (and-true _))

pub returns-then-header-4 : goal.returns-then-header-4
returns-then-header-4 c =
    let h : fits header_layout (packet_values (packet_view c.args.self)).header ≡ true = cc in
    let rows = constraints_view c.in-AdhesionSystem.x.constraints in
    rw (h, c.in-AdhesionSystem.is, remade rows) c.content_fits-then-header-4.ensures

pub returns-in-TractionBrake : goal.returns-in-TractionBrake
returns-in-TractionBrake c =
    let h : c.fits-header.result ≡ fits header_layout (packet_values (packet_view c.args.self)).header = cc in
    rw (← h, c.in-TractionBrake.is) (sym (and-true _) ∙ sym (and-true _))
